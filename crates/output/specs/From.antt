-- What writing items into lent memory from a place reached on leaves. Assumes nothing.
use Rattle.std.specs.Prelude.{◌≡◌, ℕ, ◌+◌, ◌-◌, ◌<◌, ◌≤◌, List, ◌++◌, length, take, drop, Ok, Err, Result}
use Rattle.terms.specs.declared.Refusal.{Refusal}
use Rattle.terms.specs.declared.Refusal.TheVariants.{MemoryTooShort}

-- the items go to the place reached so far: all of them, and the rest of the memory is as it was; or the first that fit;
-- where memory ran short before, nothing changes
abbrev pub PutsFrom : {X : Type 0} → (old : List X) → (at : Result ℕ Refusal) → (items : List X) → Result ℕ Refusal → (new : List X) → Type 0
PutsFrom old (Ok at) items (Ok n) new = (n ≡ at + length items) × (n ≤ length old) × (new ≡ take at old ++ (items ++ drop n old))
PutsFrom old (Ok at) items (Err e) new =
    (e ≡ MemoryTooShort) × (length old < at + length items) × (new ≡ take at old ++ take (length old - at) items)
PutsFrom old (Err d) items (Ok n) new = ⊥
PutsFrom old (Err d) items (Err e) new = (e ≡ d) × (new ≡ old)
