-- What a book in memory holds. Assumes nothing.
use Rattle.std.specs.Prelude.{◌≡◌, length, take}
use Rattle.books.specs.Contents.{Contents}
use Rattle.books.specs.declared.Book.{Book}

-- its sentences are the first `count` cells; what the cells past them hold is left free
abbrev pub contents : {L : Type 0} → Book L → Contents L
contents b =
    record { sizes = b.sizes; sentences = take b.count b.cells.now; settled = b.settled; cells = length b.cells.now }

-- the book is still over the memory that it was over
abbrev pub SameCells : {L : Type 0} → (old new : Book L) → Type 0
SameCells old new = new.cells.ghost_name ≡ old.cells.ghost_name
