-- Where settling ends: the settled labels, or a board that cannot hold them. Assumes nothing.
use Rattle.std.proofs.Common.{◌≡◌, ℕ, ◌≤◌, Bool, true, false, eqb, List, Ok, Err, Result, is_err, sym, refl, ◌∙◌, subst, arith}
use Rattle.std.proofs.lemmas.Bool.{both_ways, eqb-false, eq-eqb, not-true, not_from_true}
use Rattle.labels.specs.Kind.{Kind, Lawful, some_view}
use Rattle.terms.specs.declared.Sizes.{Sizes}
use Rattle.terms.specs.declared.Sentence.{Sentence}
use Rattle.terms.specs.declared.Refusal.{Refusal}
use Rattle.terms.specs.Lists.{◌∈◌}
use Rattle.terms.specs.Places.{nodes, place, member}
use Rattle.theory.specs.Rules.{Satisfies, Overfull}
use Rattle.theory.proofs.Labels.{inside}
use Rattle.boards.specs.Meaning.{Meaning, occupied, Cleared}
use Rattle.settling.specs.Settled.{BroughtOrShort, label_on, Brought}
use Rattle.settling.specs.Turn.{Filled, Ready, Justified, Grown, Turn, Refused, Obeys, ObeysAll, Seeded}
use Rattle.terms.proofs.Counting.{count_past}
use Rattle.labels.proofs.Views.{not_none}
use Rattle.settling.proofs.Readiness.{ready_sound, all_in}
use Rattle.settling.proofs.Turns.{grown_then, grown_as}

module _ {L : Type 0} {k : Kind L} (laws : Lawful k) (z : Sizes) (ss : List (Sentence L)) (old : Meaning L) (none : (p : ℕ) → k.number (old.label p) ≡ 0) where
  -- a cleared board holds nothing that could fail to follow
  none_justified : Justified k z ss old
  none_justified =
      record {
        derived = λ f v r l h.
            absurd (eqb-false (k.number (label_on k z old f)) 0 (not-true _ (not_none laws (label_on k z old f) v l h)) (none (place z f)));
        none_past = λ p l. none p;
      }

  none_fits : occupied k old ≤ old.capacity
  none_fits =
      let few = count_past (λ p. some_view k (old.label p)) 0 old.size (omega arith)
      (λ p l. not_from_true (eqb (k.number (old.label p)) 0) (eq-eqb (k.number (old.label p)) 0 (none p))) in
      omega (arith, few)

  -- the tops and the selves are there, and a round that brought nothing came last
  module _ (ready : Ready z ss old) (tops selves before new : Meaning L) (a : Seeded k z (λ x. member x 0) (nodes z) old tops)
      (b : Seeded k z (λ x. member x x) z.concepts tops selves) (rounds : Grown k z ss selves before) where
    -- up to the last round
    pub so_far : Grown k z ss old before
    so_far = grown_then (grown_as (λ s i. absurd i) (grown_then a.grown b.grown)) rounds

    module _ {grew : Bool} (stopped : grew ≡ false) (last : Turn k z ss (ObeysAll k z ss) before new grew) where
      obeys : (s : Sentence L) → s ∈ ss → Obeys k z s (label_on k z new)
      obeys =
          all_in (λ s. Obeys k z s (label_on k z new)) ss
          (subst (λ m. ObeysAll k z ss (label_on k z m)) (sym (last.idle stopped)) (last.done stopped))

      satisfies : Satisfies k z ss (label_on k z new)
      satisfies =
          let later : Grown k z ss selves new = grown_then rounds last.grown in
          record {
            top = λ x l v w h.
                later.keeps (place z (member x 0)) v w (b.grown.keeps (place z (member x 0)) v w (a.every_view x l v w h));
            self = λ A l v w h. later.keeps (place z (member A A)) v w (b.every_view A l v w h);
            form_1 = λ x s l i e. ((obeys s i).at_node x l).form_1 e;
            form_2 = λ x s l i e. ((obeys s i).at_node x l).form_2 e;
            form_3 = λ x s l i e. ((obeys s i).at_node x l).form_3 e;
            form_4 = λ x y s l m i e. ((obeys s i).at_node x l).form_4 e y m;
            form_5 = λ s i e. (obeys s i).form_5 e;
            form_6 = λ s i e. (obeys s i).form_6 e;
          }

      pub brought : Brought k z ss old new
      brought =
          let all : Grown k z ss old new = grown_then so_far last.grown in
          let just : Justified k z ss new = all.justified ss (λ s i. i) none_justified in
          record {
            size = all.size;
            capacity = all.capacity;
            board = record {
              least = record {
                satisfies = satisfies;
                least = λ other c f r v l h. inside k z ss laws (ready_sound ready) other c v l (just.derived f v r l h);
              };
              none_past = just.none_past;
            };
            holds_them = subst (λ n. occupied k new ≤ n) all.capacity (all.fits none_fits);
          }

-- filling a cleared board is refused only where the settled labels are too many for the board
pub too_many :
    {L : Type 0} {k : Kind L} (laws : Lawful k) (z : Sizes) (ss : List (Sentence L)) (old cleared filled : Meaning L)
    → Cleared k old cleared → Refused k z ss cleared filled → Overfull k z ss old.capacity
too_many {k = k} laws z ss old cleared filled clear refused =
    subst (Overfull k z ss) clear.capacity (refused.overfull ss (λ s i. i) (none_justified laws z ss cleared clear.none))

-- a refused filling leaves the board cleared once more
pub left_short :
    {L : Type 0} {k : Kind L} (laws : Lawful k) (z : Sizes) (ss : List (Sentence L)) (old cleared filled new : Meaning L) (r : Result (Unit {0}) Refusal)
    → is_err r ≡ true → Cleared k old cleared → Filled k z ss cleared r filled → Cleared k filled new → BroughtOrShort k z ss old r new
left_short laws z ss old cleared filled new (Ok u) fails clear done again = absurd (both_ways false refl fails)
left_short laws z ss old cleared filled new (Err e) fails clear done again = (
  done.0,
  record {
    too_many = too_many laws z ss old cleared filled clear done.1;
    board = record {
      size = again.size ∙ done.1.size ∙ clear.size;
      capacity = again.capacity ∙ done.1.capacity ∙ clear.capacity;
      none = again.none;
    };
  },
)
