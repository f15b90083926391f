-- Sizing and entering, by what they answer. Assumes nothing.
use Rattle.std.proofs.Common.{◌≡◌, ℕ, Bool, true, false, cond, not, leb, ◌⊎◌, [], ◌∷◌, ◌++◌, length, Some, None, Ok, Err, Result, sym, refl, subst, inl, inr, ⊎_elim, arith}
use Rattle.std.proofs.lemmas.Bool.{leb-true, leb-false}
use Rattle.labels.specs.Kind.{Kind}
use Rattle.terms.specs.declared.Sizes.{Sizes}
use Rattle.terms.specs.declared.Sentence.{Sentence}
use Rattle.terms.specs.declared.Refusal.{Refusal}
use Rattle.terms.specs.declared.Refusal.TheVariants.{SizesOutsideLimits, MalformedSentence, BookFull}
use Rattle.terms.specs.Refusals.{After, Accepted}
use Rattle.terms.specs.Places.{outside_limits}
use Rattle.terms.specs.Sentences.{relabelled, well_formed}
use Rattle.books.specs.Contents.{Contents, unsettled, Sized, Entered}
use Rattle.texts.specs.Parts.{Unfit, full, Enters}

module _ {X : Type 0} (r : Result X Refusal) (unchanged : Type 0) (passed : Result X Refusal → Type 0) where
  -- the check finds a fault, or the call goes on
  one_check : (fault : Bool) (e : Refusal) → After (cond fault (Some e) None) r unchanged passed → ((fault ≡ true) × (r ≡ Err e) × unchanged) ⊎ ((fault ≡ false) × passed r)
  one_check true e h = inl (refl, h.0, h.1)
  one_check false e h = inr (refl, h)

  -- the same after a check that finds none
  second_check :
      (fine fault : Bool) (d e : Refusal) → fine ≡ true → After (cond (not fine) (Some d) (cond fault (Some e) None)) r unchanged passed
      → ((fault ≡ true) × (r ≡ Err e) × unchanged) ⊎ ((fault ≡ false) × passed r)
  second_check true fault d e p h = one_check fault e h
  second_check false fault d e p h = let z : ◌≡◌ {A = ℕ} 0 1 = cc in absurd (omega arith)

-- two refusals that one answer names are one
same_refusal : {X : Type 0} (d e : Refusal) → ◌≡◌ {A = Result X Refusal} (Err d) (Err e) → d ≡ e
same_refusal d e h = cc

not_refused : {X : Type 0} (x : X) (e : Refusal) → ◌≡◌ {A = Result X Refusal} (Ok x) (Err e) → ⊥
not_refused x e h = let z : ◌≡◌ {A = ℕ} 0 1 = cc in omega arith

module _ {L : Type 0} (old new : Contents L) (z : Sizes) where
  pub size_refused : (e : Refusal) → Sized old z (Err e) new → (outside_limits z ≡ true) × (e ≡ SizesOutsideLimits) × (new ≡ old)
  size_refused e h = ⊎_elim
      (λ (p : (outside_limits z ≡ true) × (◌≡◌ {A = Result (Unit {0}) Refusal} (Err e) (Err SizesOutsideLimits)) × (new ≡ old)).
      (p.0, same_refusal {X = Unit {0}} e SizesOutsideLimits p.1, p.2))
      (λ (p : (outside_limits z ≡ false) × ⊥). absurd p.1)
      (one_check (Err e) (new ≡ old) (Accepted (λ (u : Unit {0}). new ≡ unsettled old z [])) (outside_limits z) SizesOutsideLimits h)

  pub size_accepted : (u : Unit {0}) → Sized old z (Ok u) new → (outside_limits z ≡ false) × (new ≡ unsettled old z [])
  size_accepted u h = ⊎_elim
      (λ (p : (outside_limits z ≡ true) × (◌≡◌ {A = Result (Unit {0}) Refusal} (Ok u) (Err SizesOutsideLimits)) × (new ≡ old)).
      absurd (not_refused u SizesOutsideLimits p.1))
      (λ (p : (outside_limits z ≡ false) × (new ≡ unsettled old z [])). p)
      (one_check (Ok u) (new ≡ old) (Accepted (λ (u : Unit {0}). new ≡ unsettled old z [])) (outside_limits z) SizesOutsideLimits h)

module _ {L : Type 0} (k : Kind L) (old new : Contents L) (s : Sentence ℕ) (l : L) (its : k.number l ≡ s.label) (formed : well_formed old.sizes s ≡ true) where
  abbrev left : Contents L
  left = unsettled old old.sizes (old.sentences ++ (relabelled s l ∷ []))

  abbrev Full : Result (Unit {0}) Refusal → Type 0
  Full r = (leb old.cells (length old.sentences) ≡ true) × (r ≡ Err BookFull) × (new ≡ old)

  abbrev Fits : Result (Unit {0}) Refusal → Type 0
  Fits r = (leb old.cells (length old.sentences) ≡ false) × Accepted (λ (u : Unit {0}). new ≡ left) r

  either : (r : Result (Unit {0}) Refusal) → Entered old (relabelled s l) r new → Full r ⊎ Fits r
  either r h =
      second_check r (new ≡ old) (Accepted (λ (u : Unit {0}). new ≡ left)) (well_formed old.sizes s)
      (leb old.cells (length old.sentences)) MalformedSentence BookFull formed h

  -- entering a sentence whose label was found
  pub entered_labelled : (r : Result (Unit {0}) Refusal) → Entered old (relabelled s l) r new → Enters k old s r new
  entered_labelled (Ok u) h = ⊎_elim
      (λ (p : Full (Ok u)). absurd (not_refused u BookFull p.1))
      (λ (p : Fits (Ok u)). record {
        sentence = relabelled s l;
        same = λ i. relabelled s (its i);
        formed = formed;
        room = leb-false old.cells (length old.sentences) p.0;
        book = p.1;
      })
      (either (Ok u) h)
  entered_labelled (Err e) h = ⊎_elim
      (λ (p : Full (Err e)). (
        subst (Unfit k old.sizes old.cells (length old.sentences) s) (sym (same_refusal {X = Unit {0}} e BookFull p.1))
            (full formed l its (leb-true old.cells (length old.sentences) p.0)),
        p.2,
      ))
      (λ (p : Fits (Err e)). absurd p.1)
      (either (Err e) h)
