-- What a sparse board means. Assumes nothing.
use Rattle.std.specs.Prelude.{List, take}
use Rattle.labels.specs.Kind.{Kind}
use Rattle.labels.specs.declared.Label.{Ghosts}
use Rattle.boards.specs.Meaning.{Meaning}
use Rattle.boards.specs.Entries.{entries_meaning}
use Rattle.boards.specs.declared.sparse.Entry.{Entry}
use Rattle.boards.specs.declared.sparse.Sparse.{Sparse}

-- the entries in use
abbrev pub used_entries : {L : Type 0} {g : Ghosts L} → Sparse L g → List (Entry L)
used_entries b = take b.used b.entries.now

-- a sparse board means what its entries mean
abbrev pub sparse_meaning : {L : Type 0} {g : Ghosts L} → Kind L → Sparse L g → Meaning L
sparse_meaning k b = entries_meaning k b.entries.now b.used b.size
