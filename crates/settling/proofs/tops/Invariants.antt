use Rattle.terms.specs.Places.{member}
use Rattle.settling.specs.Turn.{Seeded}
use Rattle.settling.proofs.tops.Given as goal

abbrev pub invariant-loop-number : goal.invariant-loop-number
invariant-loop-number g l =
    let b = g.B.Board in
    Seeded g.L.Label.kind l.sizes (λ x. member x 0) l.number (b.meaning l.initial.board) (b.meaning l.board)
