-- Overfull says just that more of the settled labels are not none than the capacity. Assumes nothing.
use Rattle.std.proofs.Common.{◌≡◌, ℕ, ◌<◌, ◌≤◌, Bool, true, ◌&&◌, ltb, ◌↔◌, List, sym, subst, arith, ltb-true, lt-ltb}
use Rattle.std.proofs.lemmas.Bool.{and_parts, and_from}
use Rattle.labels.specs.Kind.{Kind, Lawful, some_view}
use Rattle.labels.proofs.Views.{view_of, not_none}
use Rattle.terms.specs.declared.Sizes.{Sizes}
use Rattle.terms.specs.declared.Sentence.{Sentence}
use Rattle.terms.specs.Lists.{count}
use Rattle.terms.specs.Places.{places, place}
use Rattle.terms.proofs.Placing.{at_place, within_range}
use Rattle.terms.proofs.Counting.{count_more}
use Rattle.theory.specs.Rules.{Exact, SettlesSome, Overfull, Settling}
use Rattle.theory.proofs.Names.{SoundBook, sound_book}
use Rattle.theory.proofs.Labels.{exact_least, least_alike}
use Rattle.theory.proofs.Exists.{least_labels, least_are_exact}

module _ {L : Type 0} (k : Kind L) (laws : Lawful k) where
  module _ (z : Sizes) (ss : List (Sentence L)) (g : SoundBook z ss) (on : ℕ → L) (exact : Exact k z ss (λ f. on (place z f))) where
    settles : (p : ℕ) → p < places z → some_view k (on p) ≡ true → SettlesSome k z ss p
    settles p l h =
        let f = at_place z g.has_top p l in
        let v = view_of laws (on p) h in
        let i = within_range z f.0 f.1 in
        record {
          fact = f.0;
          view = v.0;
          within = i;
          at = f.2;
          a_view = v.1;
          derived = (exact f.0 v.0 i v.1).0 (subst (λ q. k.holds (on q) v.0 ≡ true) (sym f.2) v.2);
        }

    marked_some : (p : ℕ) → SettlesSome k z ss p → some_view k (on p) ≡ true
    marked_some p s =
        not_none laws (on p) s.view s.a_view
        (subst (λ q. k.holds (on q) s.view ≡ true) s.at ((exact s.fact s.view s.within s.a_view).1 s.derived))

    pub fullness : (capacity : ℕ) → Overfull k z ss capacity ↔ (capacity < count (λ p. some_view k (on p)) (places z))
    fullness capacity = (
      λ o.
          let m = o.more in
          let c = count_more o.marked (λ p. some_view k (on p)) (places z) (λ p l h. marked_some p (o.each p h)) in
          omega (arith, m, c),
      λ h.
          let n : ℕ = places z in
          let marks : ℕ → Bool = λ p. ltb p n && some_view k (on p) in
          let c : count (λ p. some_view k (on p)) n ≤ count marks n =
          count_more (λ p. some_view k (on p)) marks n (λ p l a. and_from (ltb p n) (some_view k (on p)) (lt-ltb p n l) a) in
          record {
            marked = marks;
            each = λ p m. let b = and_parts (ltb p n) (some_view k (on p)) m in settles p (ltb-true p n b.0) b.1;
            more = omega (arith, h, c);
          },
    )

pub settling : {L : Type 0} → Settling L
settling k laws z cells ss h =
    let g = sound_book cells z ss h in
    record {
      there_are = least_labels k z ss laws g;
      alike = least_alike k z ss laws g;
      least_is_exact = λ label. (least_are_exact k z ss laws g label, λ e. exact_least k z ss laws g label e);
      overfull_counts = λ on m capacity. fullness k laws z ss g on (least_are_exact k z ss laws g (λ f. on (place z f)) m) capacity;
    }
