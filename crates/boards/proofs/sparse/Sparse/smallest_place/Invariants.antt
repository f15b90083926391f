use Rattle.std.proofs.Common.{◌≡◌, min, take}
use Rattle.std.specs.List.{fold}
use Rattle.boards.specs.Entries.{places_between}
use Rattle.boards.proofs.sparse.Sparse.smallest_place.Given as goal

abbrev pub invariant-loop-entry : goal.invariant-loop-entry
invariant-loop-entry g l = l.smallest ≡ fold min l.to (places_between l.from l.to (take l.entry-index l.entry-items))
