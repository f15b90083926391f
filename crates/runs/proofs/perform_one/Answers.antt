use Rattle.std.proofs.Common.{refl, sym, ◌∙◌}
use Rattle.books.specs.Held.{contents}
use Rattle.std.proofs.lemmas.List.{with_items_is}
use Rattle.runs.proofs.Steps.{made_by}
use Rattle.runs.proofs.perform_one.Goals as goal

pub returns-in-Enter-clause-step : goal.returns-in-Enter-clause-step
returns-in-Enter-clause-step g c =
    made_by g.L.Label.kind g.L.Label.laws c.in-Enter.is _ _ _ (c.enter.result, contents c.enter.new.self, refl, c.enter.ensures.entered, refl)

pub returns-in-Settle-clause-step : goal.returns-in-Settle-clause-step
returns-in-Settle-clause-step g c =
    made_by g.L.Label.kind g.L.Label.laws c.in-Settle.is _ _ _
    (c.settle.result, contents c.settle.new.self, g.B.Board.meaning c.settle.new.board, refl, c.settle.ensures.settles, refl)

pub returns-in-Label-clause-step : goal.returns-in-Label-clause-step
returns-in-Label-clause-step g c =
    made_by g.L.Label.kind g.L.Label.laws c.in-Label.is _ _ _ (c.label.result, refl, c.label.ensures, refl)

pub returns-in_ok-out-in-Write-clause-step : goal.returns-in_ok-out-in-Write-clause-step
returns-in_ok-out-in-Write-clause-step g c =
    let old = c.deref_mut.ensures.value ∙ c.in_ok-out-in-Write.ensures.items_if_clones_equal (λ y e. e) in
    let new = with_items_is c.in_ok-out-in-Write.out c.write_text-answer.new.out (c.write_text-answer.auto.out ∙ c.deref_mut.ensures.len) in
    made_by g.L.Label.kind g.L.Label.laws c.in-Write.is _ _ _
    (c.write_text-answer.result, _, refl, rw (sym old) (rw new c.write_text-answer.ensures), refl)
