-- What a put brings to a board, and what a board without room for it shows. Assumes nothing.
use Rattle.std.proofs.Common.{◌≡◌, ℕ, ◌+◌, ◌*◌, ◌/◌, ◌%◌, ◌<◌, ◌≤◌, Bool, true, false, cond, not, ◌&&◌, ◌||◌, eqb, leb, ◌⊎◌, List, Some, None, Ok, Err, Result, sym, refl, ap, ◌∙◌, subst, inl, inr, ⊎_elim, mod-lt, mul_comm, arith}
use Rattle.std.proofs.lemmas.Nat.{mul-add-lt, div-mul-add, mod-mul-add}
use Rattle.std.proofs.lemmas.Bool.{both_ways, cases_Bool, cases_eq, cases_lt, and_parts, and_cases, or_cases, or_left, or_right, not-true, not-false, not_from_true, not_from_false, eqb-true, eq-eqb, leb-true, leb-false, lt-leb}
use Rattle.labels.specs.Kind.{Kind, Lawful, Covers, some_view}
use Rattle.terms.specs.declared.Sizes.{Sizes}
use Rattle.terms.specs.declared.Sentence.{Sentence}
use Rattle.terms.specs.declared.Refusal.{Refusal}
use Rattle.terms.specs.declared.Refusal.TheVariants.{OutOfRange, BoardFull}
use Rattle.terms.specs.Lists.{count}
use Rattle.terms.specs.Places.{places, place, Fact}
use Rattle.terms.specs.Refusals.{After, Accepted}
use Rattle.terms.proofs.Placing.{Within, within_range, range_within, place_below, place_same, at_place}
use Rattle.theory.specs.Rules.{in_view, Derives, SettlesSome, Overfull}
use Rattle.boards.specs.Meaning.{Meaning, occupied, no_room, Same, Joined, Put}
use Rattle.settling.specs.Turn.{Justified, lacking}
use Rattle.terms.proofs.Counting.{count_more, count_less, count_one_more, count_past}
use Rattle.labels.proofs.Views.{view_of, not_none}
use Rattle.settling.proofs.Views.{same_covers, either_left, either_right, either_of, brings_view}

module _ {L : Type 0} {k : Kind L} (laws : Lawful k) (old new : Meaning L) (at : ℕ) (t : L) where
  -- what a put does below the size, where the board has no room or has
  abbrev Below : Bool → Result (Unit {0}) Refusal → Type 0
  Below full r = After (cond full (Some BoardFull) None) r (Same k old new) (Accepted (λ u. Joined k old at t new))

  below_size : (r : Result (Unit {0}) Refusal) → at < old.size → Put k old at t r new → Below (no_room k old at t) r
  below_size r l h =
      subst
      (λ b. After (cond b (Some OutOfRange) (cond (no_room k old at t) (Some BoardFull) None)) r (Same k old new) (Accepted (λ u. Joined k old at t new)))
      (lt-leb old.size at l) h

  -- below the size a put is accepted only where there is room
  pub put_accepted : at < old.size → Put k old at t (Ok tt) new → (no_room k old at t ≡ false) × Joined k old at t new
  put_accepted l h = go (no_room k old at t) (below_size (Ok tt) l h)
    where
      go : (full : Bool) → Below full (Ok tt) → (full ≡ false) × Joined k old at t new
      go true h = let e = h.0 in let z : ◌≡◌ {A = ℕ} 0 1 = cc in absurd (omega arith)
      go false h = (refl, h)

  -- and refused only for want of room
  pub put_refused : (e : Refusal) → at < old.size → Put k old at t (Err e) new → (e ≡ BoardFull) × (no_room k old at t ≡ true) × Same k old new
  put_refused e l h = go (no_room k old at t) (below_size (Err e) l h)
    where
      go : (full : Bool) → Below full (Err e) → (e ≡ BoardFull) × (full ≡ true) × Same k old new
      go true h = let q = h.0 in (cc, refl, h.1)
      go false h = absurd h

  module _ (put : Joined k old at t new) where
    -- the place holds what was put
    pub joined_here : Covers k (new.label at) t
    joined_here v l h =
        same_covers laws (new.label at) (k.either (old.label at) t) put.here v l (either_right laws (old.label at) t v l h)

    -- each place holds what it held
    pub joined_keeps : (p : ℕ) → Covers k (new.label p) (old.label p)
    joined_keeps p v l h =
        ⊎_elim
        (λ (q : p ≡ at). ap (λ j. k.holds (new.label j) v) q
        ∙ same_covers laws (new.label at) (k.either (old.label at) t) put.here v l
        (either_left laws (old.label at) t v l (ap (λ j. k.holds (old.label j) v) (sym q) ∙ h)))
        (λ (q : p ≡ at → ⊥). same_covers laws (new.label p) (old.label p) (put.elsewhere p q) v l h)
        (cases_eq p at)

    -- a view held now was held, or was put
    joined_from :
        (p v : ℕ) → v < k.views → k.holds (new.label p) v ≡ true → (k.holds (old.label p) v ≡ true) ⊎ ((p ≡ at) × (k.holds t v ≡ true))
    joined_from p v l h =
        ⊎_elim
        (λ (q : p ≡ at). ⊎_elim (λ (o : k.holds (old.label at) v ≡ true). inl (ap (λ j. k.holds (old.label j) v) q ∙ o))
        (λ (o : k.holds t v ≡ true). inr (q, o))
        (either_of laws (old.label at) t v l
        (same_covers laws (k.either (old.label at) t) (new.label at) (sym put.here) v l (ap (λ j. k.holds (new.label j) v) (sym q) ∙ h))))
        (λ (q : p ≡ at → ⊥). inl (same_covers laws (old.label p) (new.label p) (sym (put.elsewhere p q)) v l h))
        (cases_eq p at)

    -- a put that brings something leaves less lacking
    pub joined_less :
        (z : Sizes) → at < places z → (k.number (k.either (old.label at) t) ≡ k.number (old.label at) → ⊥) → lacking k z new < lacking k z old
    joined_less z below brings =
        let w : ℕ = k.views in
        let s = brings_view laws (old.label at) t brings in
        let i : ℕ = at * w + s.0 in
        let quotient : i / w ≡ at = div-mul-add at w s.0 s.1 in
        let remainder : i % w ≡ s.0 = mod-mul-add at w s.0 s.1 in
        let inside : i < places z * w = omega (arith, mul-add-lt at w s.0 (places z) below s.1, mul_comm (places z) w) in
        count_less (λ i. not (k.holds (new.label (i / w)) (i % w))) (λ i. not (k.holds (old.label (i / w)) (i % w))) (places z * w) i
        (λ j l h. ⊎_elim
        (λ (o : k.holds (old.label (j / w)) (j % w) ≡ true).
        absurd (both_ways (k.holds (new.label (j / w)) (j % w)) (not-true _ h) (joined_keeps (j / w) (j % w) (mod-lt j laws.one_view) o)))
        (not_from_false _) (cases_Bool (k.holds (old.label (j / w)) (j % w))))
        inside
        (not_from_true _ (ap (λ n. k.holds (new.label n) (i % w)) quotient ∙ ap (k.holds (new.label at)) remainder ∙ joined_here s.0 s.1 s.3))
        (not_from_false _ (ap (λ n. k.holds (old.label n) (i % w)) quotient ∙ ap (k.holds (old.label at)) remainder ∙ s.2))

    no_more :
        ((v : ℕ) → v < k.views → k.holds t v ≡ true → some_view k (old.label at) ≡ true)
        → count (λ p. some_view k (new.label p)) old.size ≤ occupied k old
    no_more had =
        count_more (λ p. some_view k (new.label p)) (λ p. some_view k (old.label p)) old.size
        (λ p l h.
        let s = view_of laws (new.label p) h in
        ⊎_elim (not_none laws (old.label p) s.0 s.1)
        (λ (o : (p ≡ at) × (k.holds t s.0 ≡ true)). ap (λ j. some_view k (old.label j)) o.0 ∙ had s.0 s.1 o.1)
        (joined_from p s.0 s.1 s.2))

    -- a put for which there is room leaves no more labels than the capacity
    pub joined_fits : no_room k old at t ≡ false → occupied k old ≤ old.capacity → occupied k new ≤ new.capacity
    joined_fits room fits =
        let now : ℕ = count (λ p. some_view k (new.label p)) old.size in
        let few : now ≤ old.capacity =
        ⊎_elim
        (λ (e : not (some_view k (old.label at)) ≡ false). omega (arith, no_more (λ v l h. not-false _ e)))
        (λ (e : (some_view k t && leb old.capacity (occupied k old)) ≡ false). ⊎_elim
        (λ (d : some_view k t ≡ false). omega (arith, no_more (λ v l h. absurd (both_ways (some_view k t) d (not_none laws t v l h)))))
        (λ (d : leb old.capacity (occupied k old) ≡ false).
        omega (
          arith,
          leb-false old.capacity (occupied k old) d,
          count_one_more (λ p. some_view k (old.label p)) (λ p. some_view k (new.label p)) at old.size
              (λ p q h. ap (λ n. not (eqb n 0)) (sym (put.elsewhere p q)) ∙ h),
        ))
        (and_cases (some_view k t) (leb old.capacity (occupied k old)) e))
        (and_cases (not (some_view k (old.label at))) (some_view k t && leb old.capacity (occupied k old)) room) in
        subst (λ n. count (λ p. some_view k (new.label p)) n ≤ new.capacity) (sym put.size) (subst (λ n. now ≤ n) (sym put.capacity) few)

-- a put at the place of a fact that follows in each view which is put
module _ {L : Type 0} {k : Kind L} (laws : Lawful k) (z : Sizes) (ss : List (Sentence L)) (old : Meaning L) (just : Justified k z ss old)
    (f : Fact) (within : Within z f) (t : L) (follows : (v : ℕ) → v < k.views → k.holds t v ≡ true → Derives z (in_view k v ss) f) where
  pub joined_justified : (new : Meaning L) → Joined k old (place z f) t new → Justified k z ss new
  joined_justified new put =
      record {
        derived = λ g v r l h. ⊎_elim (just.derived g v r l)
            (λ (o : (place z g ≡ place z f) × (k.holds t v ≡ true)).
            subst (Derives z (in_view k v ss)) (place_same z f g within (range_within z g r) (sym o.0)) (follows v l o.1))
            (joined_from laws old new (place z f) t put (place z g) v l h);
        none_past = λ p l. put.elsewhere p (λ e. omega (arith, place_below z f within)) ∙ just.none_past p l;
      }

  none_past : (p : ℕ) → places z ≤ p → some_view k (old.label p) ≡ false
  none_past p l = not_from_true (eqb (k.number (old.label p)) 0) (eq-eqb (k.number (old.label p)) 0 (just.none_past p l))

  -- a place that is not none is that of a fact that follows
  settles_some : 0 < z.concepts → (p : ℕ) → some_view k (old.label p) ≡ true → SettlesSome k z ss p
  settles_some top p h =
      ⊎_elim
      (λ (l : p < places z).
      let at = at_place z top p l in
      let s = view_of laws (old.label p) h in
      let r = within_range z at.0 at.1 in
      record {
        fact = at.0;
        view = s.0;
        within = r;
        at = at.2;
        a_view = s.1;
        derived = just.derived at.0 s.0 r s.1 (ap (λ q. k.holds (old.label q) s.0) at.2 ∙ s.2);
      })
      (λ (l : places z ≤ p). absurd (both_ways (some_view k (old.label p)) (none_past p l) h)) (cases_lt p (places z))

  -- no room for it: the places that are not none, and this one, are more than the capacity
  pub no_room_overfull : 0 < z.concepts → places z ≤ old.size → no_room k old (place z f) t ≡ true → Overfull k z ss old.capacity
  no_room_overfull top room full =
      let q : ℕ = place z f in
      let has : ℕ → Bool = λ p. some_view k (old.label p) in
      let one = and_parts (not (has q)) (some_view k t && leb old.capacity (occupied k old)) full in
      let two = and_parts (some_view k t) (leb old.capacity (occupied k old)) one.1 in
      let s = view_of laws t two.0 in
      record {
        marked = λ p. has p || eqb p q;
        each = λ p m. ⊎_elim (settles_some top p)
            (λ (e : eqb p q ≡ true).
            record {
              fact = f;
              view = s.0;
              within = within_range z f within;
              at = sym (eqb-true p q e);
              a_view = s.1;
              derived = follows s.0 s.1 s.2;
            })
            (or_cases (has p) (eqb p q) m);
        more = omega (
          arith,
          leb-true old.capacity (occupied k old) two.1,
          count_past has (places z) old.size room none_past,
          count_less has (λ p. has p || eqb p q) (places z) q (λ p l. or_left (has p) (eqb p q)) (place_below z f within)
              (not-true (has q) one.0) (or_right (has q) (eqb q q) (eq-eqb q q refl)),
        );
      }
