-- What the laws of a kind say of the views that labels hold. Assumes nothing.
use Rattle.std.proofs.Common.{◌≡◌, ℕ, ◌<◌, Bool, true, false, not, ◌&&◌, ◌||◌, ◌⊎◌, sym, refl, ◌∙◌, ⊎_elim}
use Rattle.std.proofs.lemmas.Bool.{and_parts, not-true, or_cases, or_left, or_right}
use Rattle.labels.specs.Kind.{Kind, Lawful, Covers}
use Rattle.labels.proofs.Views.{some_or_none}

-- a view that only the second holds, or none
or_new : (s t : Bool) → (not s && t) ≡ false → (s || t) ≡ s
or_new true t h = refl
or_new false t h = h

module _ {L : Type 0} {k : Kind L} (laws : Lawful k) where
  pub same_covers : (a b : L) → k.number a ≡ k.number b → Covers k a b
  same_covers a b e v l h = laws.same_views a b e v l ∙ h

  pub either_left : (a b : L) → Covers k (k.either a b) a
  either_left a b v l h = laws.either_holds a b v l ∙ or_left (k.holds a v) (k.holds b v) h

  pub either_right : (a b : L) → Covers k (k.either a b) b
  either_right a b v l h = laws.either_holds a b v l ∙ or_right (k.holds a v) (k.holds b v) h

  pub either_of : (a b : L) (v : ℕ) → v < k.views → k.holds (k.either a b) v ≡ true → (k.holds a v ≡ true) ⊎ (k.holds b v ≡ true)
  either_of a b v l h = or_cases (k.holds a v) (k.holds b v) (sym (laws.either_holds a b v l) ∙ h)

  -- a label that brings nothing holds only what was held
  pub brings_nothing : (a t : L) → k.number (k.either a t) ≡ k.number a → Covers k a t
  brings_nothing a t e v l h = same_covers a (k.either a t) (sym e) v l (either_right a t v l h)

  -- a label that brings something holds a view that was not held
  pub brings_view :
      (a t : L) → (k.number (k.either a t) ≡ k.number a → ⊥) → (v : ℕ) × (v < k.views) × (k.holds a v ≡ false) × (k.holds t v ≡ true)
  brings_view a t new =
      ⊎_elim
      (λ (s : (v : ℕ) × (v < k.views) × ((not (k.holds a v) && k.holds t v) ≡ true)).
      let both = and_parts (not (k.holds a s.0)) (k.holds t s.0) s.2 in
      (s.0, s.1, not-true (k.holds a s.0) both.0, both.1))
      (λ (none : (v : ℕ) → v < k.views → (not (k.holds a v) && k.holds t v) ≡ false).
      absurd
      (new
      (laws.same_number (k.either a t) a
      (λ v l. laws.either_holds a t v l ∙ or_new (k.holds a v) (k.holds t v) (none v l)))))
      (some_or_none (λ v. not (k.holds a v) && k.holds t v) k.views)
