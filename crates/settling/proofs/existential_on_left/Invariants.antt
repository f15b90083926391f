use Rattle.std.proofs.Common.{ℕ, ◌-◌, ◌<◌, ◌≤◌, [], ◌∷◌}
use Rattle.settling.specs.Turn.{Turn, AtLink}
use Rattle.settling.proofs.existential_on_left.Given as goal

abbrev pub invariant-loop-place : goal.invariant-loop-place
invariant-loop-place g l =
    let k = g.L.Label.kind in
    let b = g.B.Board in
    (l.start ≤ l.from)
    × Turn k l.sizes (l.sentence ∷ []) (λ label. (y : ℕ) → y < l.from - l.start → AtLink k l.sizes l.sentence l.node.0 y label)
    (b.meaning l.initial.board) (b.meaning l.board) l.grew

abbrev pub decreases-loop-place : goal.decreases-loop-place
decreases-loop-place g l = l.end - l.from
