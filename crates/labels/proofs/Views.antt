-- A label is not none exactly when it holds a view. Assumes nothing.
use Rattle.std.proofs.Common.{◌≡◌, ℕ, zero, suc, ◌<◌, Bool, true, false, eqb, ◌⊎◌, sym, ap, ◌∙◌, inl, inr, ⊎_elim, arith}
use Rattle.std.proofs.lemmas.Bool.{both_ways, cases_Bool, cases_eq, not-true, not_from_false, eqb-false, ne_eqb}
use Rattle.labels.specs.Kind.{Kind, Lawful, some_view}

-- some number below n passes, or none does
pub some_or_none : (a : ℕ → Bool) (n : ℕ) → ((v : ℕ) × (v < n) × (a v ≡ true)) ⊎ ((v : ℕ) → v < n → a v ≡ false)
some_or_none a zero = inr (λ v l. absurd (omega arith))
some_or_none a (suc n) =
    ⊎_elim (λ (s : (v : ℕ) × (v < n) × (a v ≡ true)). inl (s.0, omega (arith, s.1), s.2))
    (λ (none : (v : ℕ) → v < n → a v ≡ false). ⊎_elim
    (λ (h : a n ≡ true). inl (n, omega arith, h))
    (λ (h : a n ≡ false). inr
    (λ v l. ⊎_elim (λ (q : v ≡ n). ap a q ∙ h) (λ (q : v ≡ n → ⊥). none v (omega arith)) (cases_eq v n)))
    (cases_Bool (a n))) (some_or_none a n)

module _ {L : Type 0} {k : Kind L} (laws : Lawful k) where
  -- a label that is not none holds a view
  pub view_of : (a : L) → some_view k a ≡ true → (v : ℕ) × (v < k.views) × (k.holds a v ≡ true)
  view_of a h =
      ⊎_elim (λ s. s)
      (λ (none : (v : ℕ) → v < k.views → k.holds a v ≡ false).
      absurd
      (eqb-false (k.number a) 0 (not-true (eqb (k.number a) 0) h)
      (laws.same_number a k.none (λ v l. none v l ∙ sym (laws.none_holds v l)) ∙ laws.none_number)))
      (some_or_none (k.holds a) k.views)

  -- a label that holds a view is not none
  pub not_none : (a : L) (v : ℕ) → v < k.views → k.holds a v ≡ true → some_view k a ≡ true
  not_none a v l h =
      not_from_false (eqb (k.number a) 0)
      (ne_eqb (k.number a) 0
      (λ e. both_ways (k.holds a v) (laws.same_views a k.none (e ∙ sym laws.none_number) v l ∙ laws.none_holds v l) h))
