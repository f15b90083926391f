-- What a book that can be says of the names in its sentences, and of the facts that follow from them. Assumes nothing.
use Rattle.std.proofs.Common.{◌≡◌, ℕ, ◌<◌, Bool, true, false, not, ◌&&◌, ◌||◌, eqb, ltb, leb, List, [], ◌∷◌, length, sym, refl, subst, inl, inr, arith, ltb-true}
use borrow.Author.Tests.{eqb-false, not-true}
use Rattle.std.proofs.lemmas.Bool.{and_parts, or_parts}
use Rattle.terms.specs.declared.Sizes.{Sizes}
use Rattle.terms.specs.declared.Sentence.{Sentence}
use Rattle.terms.specs.Lists.{◌∈◌, each}
use Rattle.terms.specs.Sentences.{well_formed, holdable}
use Rattle.terms.specs.Places.{outside_limits, Fact}
use Rattle.terms.proofs.Placing.{Within}
use Rattle.theory.specs.Rules.{Derives, top, self, form_1, form_2, form_3, form_4, form_5, form_6}

-- each name of the sentence is in range for its form
pub record Proper {L : Type 0} (z : Sizes) (s : Sentence L) : Type 0 where
  pub form_1 : s.form ≡ 1 → (s.first < z.concepts) × (s.third < z.concepts)
  pub form_2 : s.form ≡ 2 → (s.first < z.concepts) × (s.second < z.concepts) × (s.third < z.concepts)
  pub form_3 : s.form ≡ 3 → (s.first < z.concepts) × (s.role < z.roles) × (s.third < z.concepts)
  pub form_4 : s.form ≡ 4 → (s.first < z.concepts) × (s.role < z.roles) × (s.third < z.concepts)
  pub form_5 : s.form ≡ 5 → (s.first < z.individuals) × (s.third < z.concepts)
  pub form_6 : s.form ≡ 6 → (s.first < z.individuals) × (s.role < z.roles) × (s.third < z.individuals)

pub record SoundBook {L : Type 0} (z : Sizes) (ss : List (Sentence L)) : Type 0 where
  pub has_top : 0 < z.concepts
  pub proper : (s : Sentence L) → s ∈ ss → Proper z s

or_no : (t : Bool) → (t || false) ≡ true → t ≡ true
or_no true h = refl
or_no false h = h

four : (a b c d : Bool) → (a && (b && (c && d))) ≡ true → (a ≡ true) × (b ≡ true) × (c ≡ true) × (d ≡ true)
four a b c d h =
    let p = and_parts a (b && (c && d)) h in
    let q = and_parts b (c && d) p.1 in
    let r = and_parts c d q.1 in
    (p.0, q.0, r.0, r.1)

module _ {L : Type 0} (z : Sizes) (s : Sentence L) where
  abbrev as_form : ℕ → Sentence L
  as_form f = record { form = f; first = s.first; second = s.second; role = s.role; third = s.third; label = s.label }

  abbrev C : ℕ → Bool
  C n = ltb n z.concepts

  abbrev R : ℕ → Bool
  R n = ltb n z.roles

  abbrev U : ℕ → Bool
  U n = ltb n z.individuals

  abbrev O : ℕ → Bool
  O n = eqb n 0

  pub well_proper : well_formed z s ≡ true → Proper z s
  well_proper w =
      record {
        form_1 = λ q. let h = four (C s.first) (O s.second) (O s.role) (C s.third) (or_no _ (at 1 q)) in
            (ltb-true _ _ h.0, ltb-true _ _ h.3);
        form_2 = λ q. let h = four (C s.first) (C s.second) (O s.role) (C s.third) (or_no _ (at 2 q)) in
            (ltb-true _ _ h.0, ltb-true _ _ h.1, ltb-true _ _ h.3);
        form_3 = λ q. let h = four (C s.first) (O s.second) (R s.role) (C s.third) (or_no _ (at 3 q)) in
            (ltb-true _ _ h.0, ltb-true _ _ h.2, ltb-true _ _ h.3);
        form_4 = λ q. let h = four (C s.first) (O s.second) (R s.role) (C s.third) (or_no _ (at 4 q)) in
            (ltb-true _ _ h.0, ltb-true _ _ h.2, ltb-true _ _ h.3);
        form_5 = λ q. let h = four (U s.first) (O s.second) (O s.role) (C s.third) (or_no _ (at 5 q)) in
            (ltb-true _ _ h.0, ltb-true _ _ h.3);
        form_6 = λ q. let h = four (U s.first) (O s.second) (R s.role) (U s.third) (at 6 q) in
            (ltb-true _ _ h.0, ltb-true _ _ h.2, ltb-true _ _ h.3);
      }
    where
      at : (f : ℕ) → s.form ≡ f → well_formed z (as_form f) ≡ true
      at f q = subst (λ f. well_formed z (as_form f) ≡ true) q w

each_in : {X : Type 0} (test : X → Bool) (xs : List X) → each test xs ≡ true → (x : X) → x ∈ xs → test x ≡ true
each_in test [] h x m = absurd m
each_in test (y ∷ xs) h x (inl e) = subst (λ a. test a ≡ true) (sym e) (and_parts (test y) (each test xs) h).0
each_in test (y ∷ xs) h x (inr m) = each_in test xs (and_parts (test y) (each test xs) h).1 x m

pub sound_book : {L : Type 0} (cells : ℕ) (z : Sizes) (ss : List (Sentence L)) → holdable cells z ss ≡ true → SoundBook z ss
sound_book cells z ss h =
    let p = and_parts (not (outside_limits z)) (each (well_formed z) ss && leb (length ss) cells) h in
    let q = and_parts (each (well_formed z) ss) (leb (length ss) cells) p.1 in
    let o = or_parts (eqb z.concepts 0) _ (not-true (outside_limits z) p.0) in
    let n : z.concepts ≡ 0 → ⊥ = eqb-false z.concepts 0 o.0 in
    record {
      has_top = omega (arith, n);
      proper = λ s m. well_proper z s (each_in (well_formed z) ss q.0 s m);
    }

module _ {L : Type 0} (z : Sizes) (ss : List (Sentence L)) (g : SoundBook z ss) where
  pub within : {f : Fact} → Derives z ss f → Within z f
  within (top h) = (h, g.has_top)
  within (self h) = (omega arith, h)
  within (form_1 s i q p) = ((within p).0, ((g.proper s i).form_1 q).1)
  within (form_2 s i q p p') = ((within p).0, ((g.proper s i).form_2 q).2)
  within (form_3 s i q p) = let h = (g.proper s i).form_3 q in ((within p).0, h.1, omega arith)
  within (form_4 s i q p p') = ((within p).0, ((g.proper s i).form_4 q).2)
  within (form_5 s i q) = let h = (g.proper s i).form_5 q in (omega arith, h.1)
  within (form_6 s i q) = let h = (g.proper s i).form_6 q in (omega arith, h.1, omega arith)
