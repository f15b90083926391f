-- Tests of every element of a list, and the parts of a book that can be. Assumes nothing.
use Rattle.std.proofs.Common.{◌≡◌, ℕ, zero, suc, ◌≤◌, Bool, true, false, not, List, [], ◌∷◌, ◌++◌, length, take, drop, refl, ◌∙◌, le-leb, leb-true}
use borrow.Author.Tests.{not-true}
use Rattle.std.proofs.lemmas.Bool.{and_from, and_parts, not_from_false}
use Rattle.std.proofs.lemmas.List.Folds.{list_all-append}
use Rattle.terms.specs.declared.Sizes.{Sizes}
use Rattle.terms.specs.declared.Sentence.{Sentence}
use Rattle.terms.specs.Lists.{each}
use Rattle.terms.specs.Places.{outside_limits}
use Rattle.terms.specs.Sentences.{well_formed, holdable}

module _ {X : Type 0} (test : X → Bool) where
  pub each_append : (xs ys : List X) → each test xs ≡ true → each test ys ≡ true → each test (xs ++ ys) ≡ true
  each_append xs ys h k = list_all-append test xs ys ∙ and_from (each test xs) (each test ys) h k

  pub each_take : (n : ℕ) (xs : List X) → each test xs ≡ true → each test (take n xs) ≡ true
  each_take zero xs h = refl
  each_take (suc n) [] h = refl
  each_take (suc n) (x ∷ xs) h =
      let p = and_parts (test x) (each test xs) h in and_from (test x) _ p.0 (each_take n xs p.1)

  pub each_drop : (n : ℕ) (xs : List X) → each test xs ≡ true → each test (drop n xs) ≡ true
  each_drop zero xs h = h
  each_drop (suc n) [] h = refl
  each_drop (suc n) (x ∷ xs) h = each_drop n xs (and_parts (test x) (each test xs) h).1

-- a book that can be, in its parts
pub record Holdable {L : Type 0} (cells : ℕ) (z : Sizes) (ss : List (Sentence L)) : Type 0 where
  pub limits : outside_limits z ≡ false
  pub formed : each (well_formed z) ss ≡ true
  pub few : length ss ≤ cells

module _ {L : Type 0} (cells : ℕ) (z : Sizes) (ss : List (Sentence L)) where
  pub holdable_parts : holdable cells z ss ≡ true → Holdable cells z ss
  holdable_parts h =
      let p = and_parts (not (outside_limits z)) _ h in
      let q = and_parts (each (well_formed z) ss) _ p.1 in
      record { limits = not-true (outside_limits z) p.0; formed = q.0; few = leb-true (length ss) cells q.1 }

  pub holdable_from : Holdable cells z ss → holdable cells z ss ≡ true
  holdable_from h =
      and_from (not (outside_limits z)) _ (not_from_false (outside_limits z) h.limits)
      (and_from (each (well_formed z) ss) _ h.formed (le-leb (length ss) cells h.few))
