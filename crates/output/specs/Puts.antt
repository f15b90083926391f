-- What a part of a call that writes items into lent memory leaves. Assumes nothing.
use Rattle.std.specs.Prelude.{◌≡◌, ◌+◌, ◌<◌, List, ◌++◌, length, take, drop, Ok, Err, Result}
use Rattle.terms.specs.declared.Refusal.{Refusal}
use Rattle.terms.specs.declared.Refusal.TheVariants.{MemoryTooShort}
use Rattle.output.specs.declared.Output.{Output}

-- the items written so far
abbrev pub written : {X : Type 0} → Output X → List X
written o = take o.count o.memory.now

-- accepted: the items stand after those written before, and the rest of the memory is as it was;
-- refused: there is no room for them all, and the memory is full of those written before and the first of these
abbrev pub Leaves : {X : Type 0} → (old : Output X) → (items : List X) → Result (Unit {0}) Refusal → (new : Output X) → Type 0
Leaves old items (Ok u) new =
    (written new ≡ written old ++ items) × (drop new.count new.memory.now ≡ drop new.count old.memory.now)
Leaves old items (Err e) new =
    (e ≡ MemoryTooShort)
    × (length old.memory.now < old.count + length items)
    × (new.count ≡ length old.memory.now)
    × (new.memory.now ≡ take (length old.memory.now) (written old ++ items))

-- the items go after those written so far, as many as fit; the memory is the same one, and as long as it was
pub record Puts {X : Type 0} (old : Output X) (items : List X) (r : Result (Unit {0}) Refusal) (new : Output X) : Type 0 where
  pub same_memory : new.memory.ghost_name ≡ old.memory.ghost_name
  pub as_long : length new.memory.now ≡ length old.memory.now
  pub leaves : Leaves old items r new
