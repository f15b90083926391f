use Rattle.settling.specs.Turn.{Grown, lacking}
use Rattle.settling.proofs.fill.Given as goal

abbrev pub invariant-loop : goal.invariant-loop
invariant-loop g l =
    let b = g.B.Board in
    Grown g.L.Label.kind l.sizes l.sentences (b.meaning l.initial.board) (b.meaning l.board)

abbrev pub decreases-loop : goal.decreases-loop
decreases-loop g l = lacking g.L.Label.kind l.sizes (g.B.Board.meaning l.board)
