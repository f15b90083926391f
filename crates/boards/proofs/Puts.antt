-- What a put below the size answers, and when a board has no room. Assumes nothing.
use Rattle.std.proofs.Common.{◌≡◌, ℕ, ◌<◌, ◌≤◌, true, false, cond, not, leb, Some, None, Ok, Err, Option, Result, sym, refl, ◌∙◌, subst, ⊎_elim, arith}
use Rattle.std.proofs.lemmas.Bool.{cases_Bool, and_from, and_left, and_right, cond-false, cond-true, le-leb, lt-leb, not_from_false, not_from_true}
use Rattle.labels.specs.Kind.{Kind, some_view}
use Rattle.terms.specs.Refusals.{After, Accepted}
use Rattle.terms.specs.declared.Refusal.{Refusal}
use Rattle.terms.specs.declared.Refusal.TheVariants.{OutOfRange, BoardFull}
use Rattle.boards.specs.Meaning.{Meaning, occupied, no_room, Same, Joined, Put}
use Rattle.terms.proofs.Counting.{count_below}

module _ {L : Type 0} (k : Kind L) (old : Meaning L) (place : ℕ) (t : L) (new : Meaning L) where
  -- what a put answers where its checks find this fault
  abbrev Answered : Result (Unit {0}) Refusal → Option Refusal → Type 0
  Answered r fault = After fault r (Same k old new) (Accepted (λ u. Joined k old place t new))

  module _ (inside : place < old.size) where
    in_size : cond (leb old.size place) (Some OutOfRange) (cond (no_room k old place t) (Some BoardFull) None) ≡ cond (no_room k old place t) (Some BoardFull) None
    in_size = cond-false (leb old.size place) (Some OutOfRange) _ (lt-leb old.size place inside)

    pub put_full : no_room k old place t ≡ true → Same k old new → Put k old place t (Err BoardFull) new
    put_full full same =
        subst (Answered (Err BoardFull)) (sym (in_size ∙ cond-true (no_room k old place t) (Some BoardFull) None full)) (refl, same)

    pub put_joined : no_room k old place t ≡ false → Joined k old place t new → Put k old place t (Ok tt) new
    put_joined fits joined =
        subst (Answered (Ok tt)) (sym (in_size ∙ cond-false (no_room k old place t) (Some BoardFull) None fits)) joined

module _ {L : Type 0} (k : Kind L) (m : Meaning L) (place : ℕ) (t : L) where
  -- a place that is not none has its room already
  pub room_held : some_view k (m.label place) ≡ true → no_room k m place t ≡ false
  room_held held = and_left (not (some_view k (m.label place))) _ (not_from_true _ held)

  -- none takes no room
  pub room_for_none : some_view k t ≡ false → no_room k m place t ≡ false
  room_for_none none = and_right (not (some_view k (m.label place))) _ (and_left (some_view k t) _ none)

  pub room_left : occupied k m < m.capacity → no_room k m place t ≡ false
  room_left left =
      and_right (not (some_view k (m.label place))) _ (and_right (some_view k t) _ (lt-leb m.capacity (occupied k m) left))

  pub no_room_left : some_view k (m.label place) ≡ false → some_view k t ≡ true → m.capacity ≤ occupied k m → no_room k m place t ≡ true
  no_room_left none some full =
      and_from (not (some_view k (m.label place))) _ (not_from_false _ none) (and_from (some_view k t) _ some (le-leb m.capacity (occupied k m) full))

  -- a board with room for each of its places is never full
  pub never_full : m.size ≤ m.capacity → place < m.size → no_room k m place t ≡ false
  never_full wide inside =
      ⊎_elim room_held
      (λ none. room_left (omega (arith, count_below (λ p. some_view k (m.label p)) m.size place inside none)))
      (cases_Bool (some_view k (m.label place)))
