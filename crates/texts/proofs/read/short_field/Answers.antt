use Rattle.std.proofs.Common.{rules}
use Rattle.texts.proofs.Rows.{too_large}
use Rattle.texts.proofs.read.short_field.Goals as goal

pub returns-in_err-ok : goal.returns-in_err-ok
returns-in_err-ok c =
    rw c.from_residual-in_err-ok.ensures (too_large _ c.in_ok-value.ensures (search rules) c.requires)
