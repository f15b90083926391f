-- What the cells of a dense board mean. Assumes nothing.
use Rattle.std.specs.Prelude.{List, length, slice_index_or}
use Rattle.labels.specs.Kind.{Kind}
use Rattle.boards.specs.Meaning.{Meaning}
use Rattle.boards.specs.declared.dense.Dense.{Dense}

-- one label per place; size and capacity are the number of cells
abbrev pub cells_meaning : {L : Type 0} → Kind L → List L → Meaning L
cells_meaning k cells = record { size = length cells; capacity = length cells; label = λ p. slice_index_or cells p k.none }

-- a dense board means what its cells mean
abbrev pub dense_meaning : {L : Type 0} → Kind L → Dense L → Meaning L
dense_meaning k b = cells_meaning k b.cells.now
