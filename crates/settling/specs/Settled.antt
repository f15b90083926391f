-- What settling does to a board. Assumes nothing.
use Rattle.std.specs.Prelude.{◌≡◌, ℕ, ◌≤◌, not, List, [], ◌∷◌, Ok, Err, Result, nat_lt}
use Rattle.labels.specs.Kind.{Kind}
use Rattle.terms.specs.declared.Sizes.{Sizes}
use Rattle.terms.specs.declared.Sentence.{Sentence}
use Rattle.terms.specs.declared.Refusal.{Refusal}
use Rattle.terms.specs.declared.Refusal.TheVariants.{SizesOutsideLimits, MalformedSentence, TooFewPlaces, BoardFull}
use Rattle.terms.specs.Lists.{each}
use Rattle.terms.specs.Refusals.{Checked}
use Rattle.terms.specs.Places.{outside_limits, places, place, Fact}
use Rattle.terms.specs.Sentences.{well_formed}
use Rattle.theory.specs.Rules.{Least, Overfull}
use Rattle.boards.specs.Meaning.{Meaning, Cleared, occupied}

module _ {L : Type 0} (k : Kind L) where
  -- the label that a board has for a fact
  abbrev pub label_on : Sizes → Meaning L → Fact → L
  label_on z m f = m.label (place z f)

  -- the board has the settled labels of these sentences, and none at the places past them
  pub record SettledBoard (z : Sizes) (ss : List (Sentence L)) (m : Meaning L) : Type 0 where
    pub least : Least k z ss (label_on z m)
    pub none_past : (p : ℕ) → places z ≤ p → k.number (m.label p) ≡ 0

  -- accepted: the board is brought to the settled labels, which it can hold
  pub record Brought (z : Sizes) (ss : List (Sentence L)) (old new : Meaning L) : Type 0 where
    pub size : new.size ≡ old.size
    pub capacity : new.capacity ≡ old.capacity
    pub board : SettledBoard z ss new
    pub holds_them : occupied k new ≤ old.capacity

  -- refused 8: more settled labels are not none than the capacity, and the board is left cleared
  pub record Short (z : Sizes) (ss : List (Sentence L)) (old new : Meaning L) : Type 0 where
    pub too_many : Overfull k z ss old.capacity
    pub board : Cleared k old new

  -- what settling does once the board is large enough
  abbrev pub BroughtOrShort : Sizes → List (Sentence L) → (old : Meaning L) → Result (Unit {0}) Refusal → (new : Meaning L) → Type 0
  BroughtOrShort z ss old (Ok u) new = Brought z ss old new
  BroughtOrShort z ss old (Err e) new = (e ≡ BoardFull) × Short z ss old new

  -- settling any sizes and sentences: 1, 2, 7, which change nothing, then 8
  abbrev pub Settles : Sizes → List (Sentence L) → (old : Meaning L) → Result (Unit {0}) Refusal → (new : Meaning L) → Type 0
  Settles z ss old r new =
      Checked
      ((outside_limits z, SizesOutsideLimits) ∷ ((not (each (well_formed z) ss), MalformedSentence) ∷ ((nat_lt old.size (places z), TooFewPlaces) ∷ [])))
      r (new ≡ old) (λ r. BroughtOrShort z ss old r new)
