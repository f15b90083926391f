use Rattle.std.proofs.Common.{◌≡◌, length, string_bytes, refl, ◌∙◌}
use Rattle.std.proofs.lemmas.Result.{IfOk-weaker}
use Rattle.sessions.proofs.Answering.{made_as, answers_in}
use Rattle.sessions.proofs.on_board.Given.{Over}
use Rattle.sessions.proofs.on_board.Goals as goal

-- as many cells of the board as were asked for
labels : (g : Over) (c : goal.After-drop-cells-in-Dense g) → length c.deref_mut.result.now ≡ c.in-Dense.count
labels g c = c.deref_mut.ensures.len ∙ c.in_ok-labels-in-Dense.ensures.len

pub returns-in-Dense : goal.returns-in-Dense
returns-in-Dense g c =
    let k = g.L.Label.kind in
    IfOk-weaker c.answered.result _ _
    (λ s.
    answers_in k c.args.setup _ c.args.calls.now (string_bytes s) _
    (c.deref_mut-in-Dense.ensures.len ∙ c.in_ok-cells.ensures.len) c.in-Dense.is
    (made_as k (labels g c) (labels g c) c.new-board.ensures.made)) c.answered.ensures

pub returns : goal.returns
returns g c =
    let k = g.L.Label.kind in
    IfOk-weaker c.answered-in-Sparse.result _ _
    (λ s.
    answers_in k c.args.setup _ c.args.calls.now (string_bytes s) _
    (c.deref_mut-in-Sparse-2.ensures.len ∙ c.in_ok-cells.ensures.len) c.in-Sparse.is
    (made_as k refl (c.deref_mut-in-Sparse.ensures.len ∙ c.in_ok-entries-in-Sparse.ensures.len) c.new-board-in-Sparse.ensures.made)) c.answered-in-Sparse.ensures
