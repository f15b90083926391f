use Rattle.std.proofs.Common.{arith}
use Rattle.texts.proofs.Rows.{no_last, no_first, no_later, no_sizes_line}
use Rattle.texts.proofs.read.sizes_line.Goals as goal

pub returns-in_err-roles : goal.returns-in_err-roles
returns-in_err-roles c =
    rw c.from_residual-in_err-roles.ensures
    (no_sizes_line c.args.text.now (no_later (omega arith) c.in_ok-concepts.ensures (no_first c.in_err-roles.ensures)))

pub returns-in_err-individuals : goal.returns-in_err-individuals
returns-in_err-individuals c =
    rw c.from_residual-in_err-individuals.ensures
    (no_sizes_line c.args.text.now
    (no_later (omega arith) c.in_ok-concepts.ensures (no_later (omega arith) c.in_ok-roles.ensures (no_last c.in_err-individuals.ensures))))
