-- What a part of settling that is ready knows of its names, and what follows for its sentences one by one. Assumes nothing.
use Rattle.std.proofs.Common.{◌≡◌, ℕ, zero, suc, ◌<◌, true, not, List, [], ◌∷◌, length, get_or, sym, refl, subst, inl, inr, arith}
use Rattle.std.proofs.lemmas.Bool.{and_from, not_from_false, le-leb}
use Rattle.std.specs.List.{AllByRecursion}
use Rattle.terms.specs.declared.Sizes.{Sizes}
use Rattle.terms.specs.declared.Sentence.{Sentence}
use Rattle.terms.specs.Lists.{◌∈◌, each}
use Rattle.terms.specs.Places.{outside_limits}
use Rattle.terms.specs.Sentences.{well_formed}
use Rattle.terms.proofs.Truths.{say, said}
use Rattle.theory.proofs.Names.{SoundBook, sound_book}
use Rattle.theory.proofs.Lists.{each_of}
use Rattle.boards.specs.Meaning.{Meaning}
use Rattle.settling.specs.Turn.{Ready, AllIn}

module _ {X : Type 0} where
  -- what stands at a place of the list stands in it
  pub at_in : (xs : List X) (i : ℕ) (x : X) → i < length xs → x ≡ get_or xs i x → x ∈ xs
  at_in [] i x l e = absurd (omega arith)
  at_in (y ∷ xs) zero x l e = inl e
  at_in (y ∷ xs) (suc i) x l e = inr (at_in xs i x (omega arith) e)

  -- what holds of each element holds of one that stands in the list
  pub all_in : (P : X → Type 0) (xs : List X) → AllByRecursion P xs → (x : X) → x ∈ xs → P x
  all_in P [] a x m = absurd m
  all_in P (y ∷ xs) a x (inl e) = subst P (sym e) a.0
  all_in P (y ∷ xs) a x (inr m) = all_in P xs a.1 x m

module _ {L : Type 0} {z : Sizes} {ss : List (Sentence L)} {m : Meaning L} (ready : Ready z ss m) where
  pub ready_sound : SoundBook z ss
  ready_sound =
      sound_book (length ss) z ss
      (and_from (not (outside_limits z)) _ (not_from_false (outside_limits z) ready.within_limits)
      (and_from (each (well_formed z) ss) _ ready.for_sizes (le-leb (length ss) (length ss) (omega arith))))

  -- a board of the same size is as ready
  pub ready_still : (now : Meaning L) → now.size ≡ m.size → Ready z ss now
  ready_still now e = record { within_limits = ready.within_limits; for_sizes = ready.for_sizes; room = omega (arith, ready.room) }

  -- each of the sentences is ready by itself
  pub ready_one : (s : Sentence L) → s ∈ ss → Ready z (s ∷ []) m
  ready_one s i =
      record {
        within_limits = ready.within_limits;
        for_sizes = and_from (well_formed z s) true (said _ (each_of (well_formed z) ss (say ready.for_sizes) s i)) refl;
        room = ready.room;
      }

-- a sentence of the list, by itself, is all in the list
pub one_in : {L : Type 0} (ss : List (Sentence L)) (s : Sentence L) → s ∈ ss → AllIn (s ∷ []) ss
one_in ss s i q (inl e) = subst (λ a. a ∈ ss) (sym e) i
one_in ss s i q (inr m) = absurd m
