-- Parts of settling, one after another, and a gain as a part. Assumes nothing.
use Rattle.std.proofs.Common.{◌≡◌, ℕ, ◌+◌, ◌<◌, ◌≤◌, Bool, true, false, ◌||◌, List, IsErrAnd, Ok, Err, Result, sym, refl, ap, ◌∙◌, subst, ⊎_elim, arith}
use Rattle.std.proofs.lemmas.Bool.{both_ways, cases_Bool, cases_eq, or_cases, or_parts}
use Rattle.std.proofs.lemmas.Result.{err_from_is_err_and}
use Rattle.labels.specs.Kind.{Kind, Lawful, Covers}
use Rattle.terms.specs.declared.Sizes.{Sizes}
use Rattle.terms.specs.declared.Sentence.{Sentence}
use Rattle.terms.specs.declared.Refusal.{Refusal}
use Rattle.terms.specs.Places.{places, place, Fact}
use Rattle.terms.proofs.Placing.{Within, place_below}
use Rattle.theory.specs.Rules.{in_view, Derives, Overfull}
use Rattle.boards.specs.Meaning.{Meaning}
use Rattle.settling.specs.Settled.{label_on}
use Rattle.settling.specs.Turn.{AllIn, Gained, Justified, lacking, Grown, Turn, Refused, Turned}
use Rattle.settling.proofs.Views.{brings_nothing}
use Rattle.settling.proofs.Gains.{put_accepted, put_refused, joined_here, joined_keeps, joined_less, joined_fits, joined_justified, no_room_overfull}

-- what leaves by a `?` is the refusal that came
pub left_by : {X : Type 0} (r : Result X Refusal) (e : Refusal) → IsErrAnd r (λ y. y ≡ e) → r ≡ Err e
left_by r e h = let p = err_from_is_err_and r h in p.1 ∙ ap Err p.2

module _ {L : Type 0} {k : Kind L} {z : Sizes} where
  -- nothing is done
  grown_none : {used : List (Sentence L)} {old : Meaning L} → Grown k z used old old
  grown_none =
      record {
        size = refl;
        capacity = refl;
        keeps = λ p v l h. h;
        justified = λ ss u just. just;
        fits = λ l. l;
      }

  -- one part after another
  pub grown_then : {used : List (Sentence L)} {old mid new : Meaning L} → Grown k z used old mid → Grown k z used mid new → Grown k z used old new
  grown_then a b =
      record {
        size = b.size ∙ a.size;
        capacity = b.capacity ∙ a.capacity;
        keeps = λ p v l h. b.keeps p v l (a.keeps p v l h);
        justified = λ ss u just. b.justified ss u (a.justified ss u just);
        fits = λ l. b.fits (a.fits l);
      }

  -- more sentences may be used
  pub grown_as : {used used' : List (Sentence L)} {old new : Meaning L} → AllIn used used' → Grown k z used old new → Grown k z used' old new
  grown_as more a =
      record {
        size = a.size;
        capacity = a.capacity;
        keeps = a.keeps;
        justified = λ ss u. a.justified ss (λ s i. u s (more s i));
        fits = a.fits;
      }

  -- a part, and then one that is refused
  pub refused_then : {used : List (Sentence L)} {old mid new : Meaning L} → Grown k z used old mid → Refused k z used mid new → Refused k z used old new
  refused_then a b =
      record {
        size = b.size ∙ a.size;
        capacity = b.capacity ∙ a.capacity;
        overfull = λ ss u just. subst (Overfull k z ss) a.capacity (b.overfull ss u (a.justified ss u just));
      }

  pub refused_as : {used used' : List (Sentence L)} {old new : Meaning L} → AllIn used used' → Refused k z used old new → Refused k z used' old new
  refused_as more a = record { size = a.size; capacity = a.capacity; overfull = λ ss u. a.overfull ss (λ s i. u s (more s i)) }

  -- nothing is done, and what is asked is there
  turn_none : {used : List (Sentence L)} {Asks : (Fact → L) → Type 0} {old : Meaning L} → Asks (label_on k z old) → Turn k z used Asks old old false
  turn_none a =
      record {
        grown = grown_none;
        idle = λ e. refl;
        done = λ e. a;
        less = λ e. absurd (both_ways false refl e);
      }

  no_more_lacking :
      {used : List (Sentence L)} {Asks : (Fact → L) → Type 0} {old new : Meaning L} {grew : Bool}
      → Turn k z used Asks old new grew → lacking k z new ≤ lacking k z old
  no_more_lacking {grew = grew} a =
      ⊎_elim (λ (e : grew ≡ true). omega (arith, a.less e)) (λ (e : grew ≡ false). omega (arith, ap (lacking k z) (a.idle e)))
      (cases_Bool grew)

  -- one part after another: it asks what both ask
  pub turn_then :
      {used : List (Sentence L)} {Before After Asks : (Fact → L) → Type 0} {old mid new : Meaning L} {grew more : Bool}
      → ((label : Fact → L) → Before label → After label → Asks label)
      → Turn k z used Before old mid grew → Turn k z used After mid new more → Turn k z used Asks old new (grew || more)
  turn_then {After = After} {old = old} {grew = grew} {more} both a b =
      record {
        grown = grown_then a.grown b.grown;
        idle = λ e. let parts = or_parts grew more e in b.idle parts.1 ∙ a.idle parts.0;
        done = λ e.
            let parts = or_parts grew more e in
            both (label_on k z old) (a.done parts.0) (subst (λ m. After (label_on k z m)) (a.idle parts.0) (b.done parts.1));
        less = λ e. ⊎_elim (λ (t : grew ≡ true). omega (arith, a.less t, no_more_lacking b))
            (λ (t : more ≡ true). omega (arith, b.less t, no_more_lacking a)) (or_cases grew more e);
      }

  -- a part that asks also what the board shows after it
  pub turn_seen :
      {used : List (Sentence L)} {Before Asks : (Fact → L) → Type 0} {old new : Meaning L} {grew : Bool} (Seen : (Fact → L) → Type 0)
      → ((label : Fact → L) → Before label → Seen label → Asks label) → Seen (label_on k z new)
      → Turn k z used Before old new grew → Turn k z used Asks old new grew
  turn_seen {old = old} Seen both seen a =
      record {
        grown = a.grown;
        idle = a.idle;
        done = λ e. both (label_on k z old) (a.done e) (subst (λ m. Seen (label_on k z m)) (a.idle e) seen);
        less = a.less;
      }

  -- more sentences may be used, and less is asked
  pub turn_as :
      {used used' : List (Sentence L)} {Asks Asks' : (Fact → L) → Type 0} {old new : Meaning L} {grew : Bool}
      → AllIn used used' → ((label : Fact → L) → Asks label → Asks' label) → Turn k z used Asks old new grew → Turn k z used' Asks' old new grew
  turn_as {old = old} more less a =
      record {
        grown = grown_as more a.grown;
        idle = a.idle;
        done = λ e. less (label_on k z old) (a.done e);
        less = a.less;
      }

  -- one more of a row of parts
  pub turn_next :
      {used : List (Sentence L)} (Asks : ℕ → (Fact → L) → Type 0) {n : ℕ} {old mid new : Meaning L} {grew more : Bool}
      → Turn k z used (λ label. (x : ℕ) → x < n → Asks x label) old mid grew → Turn k z used (Asks n) mid new more
      → Turn k z used (λ label. (x : ℕ) → x < n + 1 → Asks x label) old new (grew || more)
  turn_next Asks {n} a b =
      turn_then
      (λ label before here x l. ⊎_elim (λ (q : x ≡ n). subst (λ j. Asks j label) (sym q) here) (λ (q : x ≡ n → ⊥). before x (omega arith)) (cases_eq x n))
      a b

-- the place of a fact gains a label: the fact follows in each view of it, and where it brings nothing, what is asked is there
module _ {L : Type 0} {k : Kind L} (laws : Lawful k) {z : Sizes} (top : 0 < z.concepts) (used : List (Sentence L)) (old new : Meaning L)
    (room : places z ≤ old.size) (f : Fact) (within : Within z f) (t : L)
    (follows : (ss : List (Sentence L)) → AllIn used ss → Justified k z ss old → (v : ℕ) → v < k.views → k.holds t v ≡ true → Derives z (in_view k v ss) f) where
  below : place z f < old.size
  below = omega (arith, place_below z f within)

  pub turn_gain :
      (Asks : (Fact → L) → Type 0) → (Covers k (label_on k z old f) t → Asks (label_on k z old)) → (r : Result Bool Refusal)
      → Gained k old (place z f) t r new → Turned k z used Asks old r new
  turn_gain Asks asked (Ok true) g =
      let p = put_accepted laws old new (place z f) t below g.0 in
      record {
        grown = record {
          size = p.1.size;
          capacity = p.1.capacity;
          keeps = joined_keeps laws old new (place z f) t p.1;
          justified = λ ss u just. joined_justified laws z ss old just f within t (follows ss u just) new p.1;
          fits = joined_fits laws old new (place z f) t p.1 p.0;
        };
        idle = λ e. absurd (both_ways true e refl);
        done = λ e. absurd (both_ways true e refl);
        less = λ e. joined_less laws old new (place z f) t p.1 z (place_below z f within) g.1;
      }
  turn_gain Asks asked (Ok false) g =
      subst (λ m. Turn k z used Asks old m false) (sym g.0) (turn_none (asked (brings_nothing laws (old.label (place z f)) t g.1)))
  turn_gain Asks asked (Err e) g =
      let p = put_refused laws old new (place z f) t e below g in (
        p.0,
        record {
          size = p.2.size;
          capacity = p.2.capacity;
          overfull = λ ss u just. no_room_overfull laws z ss old just f within t (follows ss u just) top room p.1;
        },
      )

  -- after a gain the fact has what was added
  pub gained_here : (grew : Bool) → Gained k old (place z f) t (Ok grew) new → Covers k (label_on k z new f) t
  gained_here true g = joined_here laws old new (place z f) t (put_accepted laws old new (place z f) t below g.0).1
  gained_here false g =
      subst (λ m. Covers k (label_on k z m f) t) (sym g.0) (brings_nothing laws (old.label (place z f)) t g.1)
