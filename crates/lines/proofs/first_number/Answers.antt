use Rattle.std.proofs.Common.{[], ◌∷◌, Some, ap, ◌∙◌, arith}
use Rattle.std.proofs.lemmas.Slice.Eq.{strip_prefix_is}
use Rattle.std.proofs.lemmas.Bool.Decides.{Decides-eqb}
use Rattle.lines.proofs.Numbers.{set_off_number}
use Rattle.lines.proofs.first_number.Goals as goal

pub returns : goal.returns
returns c =
    let q = c.in_ok-value.ensures in
    let whole = strip_prefix_is Decides-eqb c.args.text.now (32 ∷ []) (Some c.in_ok-field.field) c.in_ok-field.ensures.cases in
    rw c.then_some.ensures
    (set_off_number c.args.most c.in_ok-value.value c.args.text.now c.in_ok-value.rest c.is_set_off.result (omega arith) q.0 q.1 (whole ∙ ap (λ z. 32 ∷ z) q.2)
    c.is_set_off.ensures)
