-- What the entries of a sparse board mean, and when they are right. Assumes nothing.
use Rattle.std.specs.Prelude.{ℕ, ◌<◌, ◌≤◌, cond, ◌&&◌, List, [], ◌∷◌, length, take, map, filter, ◌==◌, ◌≢◌, nat_le, nat_lt}
use Rattle.labels.specs.Kind.{Kind}
use Rattle.boards.specs.Meaning.{Meaning}
use Rattle.boards.specs.declared.sparse.Entry.{Entry}

-- place 0 and the label none: what an entry holds that is not used yet
abbrev pub blank_entry : {L : Type 0} → (none : L) → Entry L
blank_entry none = record { place = 0; label = none }

-- the label of a place: that of its entry, and none where it has no entry
abbrev pub entered : {L : Type 0} → Kind L → List (Entry L) → ℕ → L
entered k [] p = k.none
entered k (e ∷ es) p = cond (e.place == p) e.label (entered k es p)

-- of the entries the first `used` are in use: the size told at making, as much capacity as entries given, and the labels entered
abbrev pub entries_meaning : {L : Type 0} → Kind L → List (Entry L) → (used size : ℕ) → Meaning L
entries_meaning k entries used size = record { size = size; capacity = length entries; label = entered k (take used entries) }

-- no entry has the place
abbrev pub Absent : {L : Type 0} → ℕ → List (Entry L) → Type 0
Absent p [] = Unit {0}
Absent p (e ∷ es) = (e.place ≢ p) × Absent p es

-- each entry stands below the size with a label that is not none, and no two have one place
abbrev pub Apart : {L : Type 0} → Kind L → ℕ → List (Entry L) → Type 0
Apart k size [] = Unit {0}
Apart k size (e ∷ es) = (e.place < size) × (k.number e.label ≢ 0) × Absent e.place es × Apart k size es

-- the kept count and the entries are right
pub record EntriesKept {L : Type 0} (k : Kind L) (entries : List (Entry L)) (used size : ℕ) : Type 0 where
  pub count_fits : used ≤ length entries
  pub apart : Apart k size (take used entries)

-- the places of entries from `from` up to `to`
abbrev pub places_between : {L : Type 0} → (from to : ℕ) → List (Entry L) → List ℕ
places_between from to es = filter (λ p. nat_le from p && nat_lt p to) (map (λ e. e.place) es)
