use Rattle.std.proofs.Common.{[], ◌∷◌, None, sym, ◌∙◌, arith}
use Rattle.std.proofs.lemmas.Slice.Eq.{strip_prefix_is}
use Rattle.std.proofs.lemmas.Bool.Decides.{Decides-eqb}
use Rattle.lines.proofs.Numbers.{same_start}
use Rattle.texts.proofs.read.field.Goals as goal

pub returns-in_err-rest : goal.returns-in_err-rest
returns-in_err-rest c =
    let rest = c.in_ok-value.rest.now in let end = c.args.end in let q = c.in_ok-value.ensures in
    rw c.from_residual-in_err-rest.ensures
    (λ n more small e.
    strip_prefix_is Decides-eqb rest (end ∷ []) None c.in_err-rest.ensures.cases more
    (same_start c.in_ok-value.value n rest (end ∷ more) (omega arith) (omega arith) q.1 (λ d. omega (arith, c.requires, d.0)) (sym q.2 ∙ e)).1)
