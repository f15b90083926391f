-- The links of a node, one after another: a node to which it has none asks nothing. Assumes nothing.
use Rattle.std.proofs.Common.{◌≡◌, ℕ, ◌+◌, ◌-◌, ◌<◌, ◌≤◌, Bool, false, ◌||◌, [], ◌∷◌, sym, ap, ◌∙◌, ⊎_elim, arith}
use Rattle.std.proofs.lemmas.Bool.{both_ways, cases_lt}
use Rattle.labels.specs.Kind.{Kind, Lawful, some_view}
use Rattle.terms.specs.declared.Sizes.{Sizes}
use Rattle.terms.specs.declared.Sentence.{Sentence}
use Rattle.terms.specs.Places.{nodes, place, Fact, member, link}
use Rattle.theory.proofs.Names.{SoundBook}
use Rattle.theory.proofs.Labels.{both_of}
use Rattle.boards.specs.Meaning.{Meaning}
use Rattle.settling.specs.Settled.{label_on}
use Rattle.settling.specs.Turn.{Turn, AtLink, AtNode}
use Rattle.labels.proofs.Views.{not_none}
use Rattle.settling.proofs.Turns.{turn_seen, turn_next, turn_as}

module _ {L : Type 0} {k : Kind L} (laws : Lawful k) (z : Sizes) (s : Sentence L) (sound : SoundBook z (s ∷ [])) (x start : ℕ)
    (at : start ≡ place z (link x s.role 0)) where
  no_link : (m : Meaning L) (y : ℕ) → some_view k (m.label (start + y)) ≡ false → AtLink k z s x y (label_on k z m)
  no_link m y none v l h =
      let on : Fact → L = label_on k z m in
      let b = both_of k z (s ∷ []) laws sound s.label (k.both (on (link x s.role y)) (on (member y s.first))) v l h in
      let d = both_of k z (s ∷ []) laws sound (on (link x s.role y)) (on (member y s.first)) v l b.1 in
      let p : place z (link x s.role y) ≡ start + y = omega arith in
      absurd (both_ways (some_view k (m.label (start + y))) none (not_none laws (m.label (start + y)) v l (ap (λ j. k.holds (m.label j) v) (sym p) ∙ d.0)))

  -- the nodes up to `from` are tried, and from there up to `to` there is no link
  module _ {old : Meaning L} (mid : Meaning L) {grew : Bool} (from to : ℕ) (low : start ≤ from)
      (none : (p : ℕ) → from ≤ p → p < to → some_view k (mid.label p) ≡ false)
      (tried : Turn k z (s ∷ []) (λ label. (y : ℕ) → y < from - start → AtLink k z s x y label) old mid grew) where
    links_skip : Turn k z (s ∷ []) (λ label. (y : ℕ) → y < to - start → AtLink k z s x y label) old mid grew
    links_skip =
        turn_seen (λ label. (y : ℕ) → from - start ≤ y → y < to - start → AtLink k z s x y label)
        (λ label before rest y l. ⊎_elim (λ (q : y < from - start). before y q) (λ (q : from - start ≤ y). rest y q l) (cases_lt y (from - start)))
        (λ y a b. no_link mid y (none (start + y) (omega arith) (omega arith))) tried

    -- that is the last of them
    pub links_all : to ≡ start + nodes z → s.form ≡ 4 → Turn k z (s ∷ []) (AtNode k z s x) old mid grew
    links_all e is =
        turn_as (λ q i. i)
        (λ label before. record {
          form_1 = λ q. absurd (omega arith);
          form_2 = λ q. absurd (omega arith);
          form_3 = λ q. absurd (omega arith);
          form_4 = λ q y l. before y (omega arith);
        })
        links_skip

    -- and the link at `to` is tried next
    pub links_more :
        (new : Meaning L) {more : Bool} → from ≤ to → Turn k z (s ∷ []) (AtLink k z s x (to - start)) mid new more
        → Turn k z (s ∷ []) (λ label. (y : ℕ) → y < to + 1 - start → AtLink k z s x y label) old new (grew || more)
    links_more new le next =
        turn_as (λ q i. i) (λ label before y l. before y (omega arith)) (turn_next (AtLink k z s x) links_skip next)
