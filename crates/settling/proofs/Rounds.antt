-- The sentences of a round, one after another, and the facts that settling begins with. Assumes nothing.
use Rattle.std.proofs.Common.{◌≡◌, ℕ, ◌+◌, ◌<◌, ◌≤◌, Bool, ◌||◌, List, [], ◌∷◌, length, get_or, take, Ok, Err, Result, sym, subst, ⊎_elim, arith}
use Rattle.std.proofs.ByRecursion.{All-more}
use Rattle.std.proofs.lemmas.Bool.{cases_eq}
use Rattle.labels.specs.Kind.{Kind, Lawful, Covers}
use Rattle.terms.specs.declared.Sizes.{Sizes}
use Rattle.terms.specs.declared.Sentence.{Sentence}
use Rattle.terms.specs.declared.Refusal.{Refusal}
use Rattle.terms.specs.declared.Refusal.TheVariants.{BoardFull}
use Rattle.terms.specs.Places.{places, place, Fact}
use Rattle.terms.proofs.Placing.{Within}
use Rattle.theory.specs.Rules.{in_view, Derives}
use Rattle.boards.specs.Meaning.{Meaning}
use Rattle.settling.specs.Settled.{label_on}
use Rattle.settling.specs.Turn.{Ready, Gained, Turn, Refused, Turned, Obeys, ObeysAll, Seeded}
use Rattle.settling.proofs.Readiness.{ready_sound, at_in, one_in}
use Rattle.settling.proofs.Turns.{grown_then, refused_then, refused_as, turn_then, turn_as, turn_gain, gained_here}

-- the sentences before a place are applied, and the one at the place comes next
module _ {L : Type 0} {k : Kind L} {z : Sizes} (ss : List (Sentence L)) (i : ℕ) (s : Sentence L) (l : i < length ss) (is : s ≡ get_or ss i s)
    {old : Meaning L} (mid new : Meaning L) {grew : Bool} (before : Turn k z ss (ObeysAll k z (take i ss)) old mid grew) where
  pub round_more : {more : Bool} → Turn k z (s ∷ []) (Obeys k z s) mid new more → Turn k z ss (ObeysAll k z (take (i + 1) ss)) old new (grew || more)
  round_more next =
      turn_then (λ label obeyed here. All-more (λ q. Obeys k z q label) ss i s l obeyed (subst (λ q. Obeys k z q label) is here)) before
      (turn_as (one_in ss s (at_in ss i s l is)) (λ label o. o) next)

  pub round_refused : Refused k z (s ∷ []) mid new → Refused k z ss old new
  round_refused next = refused_then before.grown (refused_as (one_in ss s (at_in ss i s l is)) next)

-- the first n of a row of facts have every view, and the next gains it
module _ {L : Type 0} {k : Kind L} (laws : Lawful k) {z : Sizes} (row : ℕ → Fact) (n : ℕ) (within : Within z (row n))
    (follows : (ss : List (Sentence L)) → Derives z ss (row n)) {old : Meaning L} (mid new : Meaning L) (ready : Ready z [] old)
    (before : Seeded k z row n old mid) (at : ℕ) (t : L) (p : at ≡ place z (row n)) (q : t ≡ k.all) where
  gained : (r : Result Bool Refusal) → Gained k mid at t r new → Gained k mid (place z (row n)) k.all r new
  gained r g = subst (λ j. Gained k mid j k.all r new) p (subst (λ a. Gained k mid at a r new) q g)

  room : places z ≤ mid.size
  room = omega (arith, ready.room, before.grown.size)

  turned : (r : Result Bool Refusal) → Gained k mid at t r new → Turned k z [] (λ label. Unit {0}) mid r new
  turned r g =
      turn_gain laws (ready_sound ready).has_top [] mid new room (row n) within k.all (λ ss u just v l h. follows (in_view k v ss))
      (λ label. Unit {0}) (λ covers. tt) r (gained r g)

  pub seed_more : (more : Bool) → Gained k mid at t (Ok more) new → Seeded k z row (n + 1) old new
  seed_more more g =
      let next = turned (Ok more) g in
      record {
        grown = grown_then before.grown next.grown;
        every_view = λ x l. ⊎_elim
            (λ (e : x ≡ n). subst (λ j. Covers k (label_on k z new (row j)) k.all) (sym e)
            (gained_here laws (ready_sound ready).has_top [] mid new room (row n) within k.all (λ ss u just v l h. follows (in_view k v ss)) more (gained (Ok more) g)))
            (λ (e : x ≡ n → ⊥) v w h. next.grown.keeps (place z (row x)) v w (before.every_view x (omega arith) v w h))
            (cases_eq x n);
      }

  pub seed_refused : (e : Refusal) → Gained k mid at t (Err e) new → (e ≡ BoardFull) × Refused k z [] old new
  seed_refused e g = let next = turned (Err e) g in (next.0, refused_then before.grown next.1)
