use Rattle.std.proofs.Common.{◌≡◌, ◌+◌, ◌≤◌, length}
use Rattle.books.specs.Held.{contents, SameCells}
use Rattle.texts.specs.Parts.{SoFar}
use Rattle.texts.proofs.read.load.Given as goal

abbrev pub invariant-loop-rest : goal.invariant-loop-rest
invariant-loop-rest g l =
    SoFar g.L.Label.kind (contents l.initial.book).cells l.text l.rest (contents l.book)
    × SameCells l.initial.book l.book
    × (l.line ≡ 4 + length (contents l.book).sentences)
    × (l.line + length l.rest ≤ length l.text)

abbrev pub decreases-loop-rest : goal.decreases-loop-rest
decreases-loop-rest g l = length l.rest
