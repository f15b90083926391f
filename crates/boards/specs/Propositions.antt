-- That entries are right in at most one way. Assumes nothing.
use Rattle.std.specs.Prelude.{ℕ, List, [], ◌∷◌, take}
use Rattle.std.proofs.Math.Bridge.{le_prop}
use Rattle.labels.specs.Kind.{Kind}
use Rattle.boards.specs.declared.sparse.Entry.{Entry}
use Rattle.boards.specs.Entries.{Absent, Apart, EntriesKept}

pub absent_prop : {L : Type 0} (p : ℕ) (es : List (Entry L)) → IsProp (Absent p es)
absent_prop p [] = Prim.hlevel
absent_prop p (e ∷ es) = Prim.hlevel (absent_prop p es)

pub apart_prop : {L : Type 0} (k : Kind L) (size : ℕ) (es : List (Entry L)) → IsProp (Apart k size es)
apart_prop k size [] = Prim.hlevel
apart_prop k size (e ∷ es) = Prim.hlevel (le_prop, absent_prop e.place es, apart_prop k size es)

pub entries_kept_prop : {L : Type 0} (k : Kind L) (entries : List (Entry L)) (used size : ℕ) → IsProp (EntriesKept k entries used size)
entries_kept_prop k entries used size = Prim.hlevel (le_prop, apart_prop k size (take used entries))
