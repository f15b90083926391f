use Rattle.std.proofs.Common.{take}
use Rattle.books.specs.Held.{contents, SameCells}
use Rattle.runs.specs.Account.{account}
use Rattle.runs.specs.Law.{logged}
use Rattle.runs.proofs.Steps.{Reached}
use Rattle.runs.proofs.perform.Given as goal

abbrev pub invariant-loop-request : goal.invariant-loop-request
invariant-loop-request g l =
    SameCells l.initial.book l.book
    × Reached g.L.Label.kind (account (contents l.initial.book) (g.B.Board.meaning l.initial.board))
    (take l.request-index l.requests) (logged l.log) (account (contents l.book) (g.B.Board.meaning l.board))
