use Rattle.std.proofs.Common.{ℕ, ◌<◌, [], ◌∷◌}
use Rattle.settling.specs.Turn.{Turn, AtNode}
use Rattle.settling.proofs.at_nodes.Given as goal

abbrev pub invariant-loop-number : goal.invariant-loop-number
invariant-loop-number g l =
    let k = g.L.Label.kind in
    let b = g.B.Board in
    Turn k l.sizes (l.sentence ∷ []) (λ label. (x : ℕ) → x < l.number → AtNode k l.sizes l.sentence x label)
    (b.meaning l.initial.board) (b.meaning l.board) l.grew
