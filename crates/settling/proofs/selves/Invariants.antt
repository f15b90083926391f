use Rattle.terms.specs.Places.{member}
use Rattle.settling.specs.Turn.{Seeded}
use Rattle.settling.proofs.selves.Given as goal

abbrev pub invariant-loop-concept : goal.invariant-loop-concept
invariant-loop-concept g l =
    let b = g.B.Board in
    Seeded g.L.Label.kind l.sizes (λ x. member x x) l.concept (b.meaning l.initial.board) (b.meaning l.board)
