-- The forms: what each puts follows, and where it brings nothing the labels have what the sentence asks. Assumes nothing.
use Rattle.std.proofs.Common.{◌≡◌, ℕ, ◌+◌, ◌<◌, Bool, true, List, [], ◌∷◌, Result, refl, subst, inl, arith}
use Rattle.labels.specs.Kind.{Kind, Lawful, Covers}
use Rattle.terms.specs.declared.Sizes.{Sizes}
use Rattle.terms.specs.declared.Sentence.{Sentence}
use Rattle.terms.specs.declared.Refusal.{Refusal}
use Rattle.terms.specs.Lists.{◌∈◌}
use Rattle.terms.specs.Places.{nodes, place, Fact, member, link}
use Rattle.terms.proofs.Truths.{say}
use Rattle.terms.proofs.Placing.{Within, within_range}
use Rattle.theory.specs.Rules.{in_view, Derives, form_1, form_2, form_3, form_4, form_5, form_6}
use Rattle.theory.proofs.Names.{Proper}
use Rattle.theory.proofs.Lists.{in_kept}
use Rattle.theory.proofs.Labels.{both_of}
use Rattle.boards.specs.Meaning.{Meaning}
use Rattle.settling.specs.Settled.{label_on}
use Rattle.settling.specs.Turn.{Ready, Gained, Turned, AtLink, AtNode, Obeys}
use Rattle.settling.proofs.Readiness.{ready_sound}
use Rattle.settling.proofs.Turns.{turn_gain}

module _ {L : Type 0} {k : Kind L} (laws : Lawful k) (z : Sizes) (s : Sentence L) (old new : Meaning L) (ready : Ready z (s ∷ []) old) where
  abbrev on : Fact → L
  on = label_on k z old

  names : Proper z s
  names = (ready_sound ready).proper s (inl refl)

  both_parts : (a b : L) (v : ℕ) → v < k.views → k.holds (k.both a b) v ≡ true → (k.holds a v ≡ true) × (k.holds b v ≡ true)
  both_parts = both_of k z (s ∷ []) laws (ready_sound ready)

  -- the place of f gains the label t, and with it what the sentence asks
  abbrev Gives : Fact → L → ((Fact → L) → Type 0) → Type 0
  Gives f t Asks =
      (r : Result Bool Refusal) (at : ℕ) (added : L) → at ≡ place z f → added ≡ t → Gained k old at added r new → Turned k z (s ∷ []) Asks old r new

  -- in each view of t the fact f follows from any sentences with s among them, if what the board holds does
  abbrev Follows : Fact → L → Type 0
  Follows f t =
      (ss : List (Sentence L)) (v : ℕ) → v < k.views → ((g : Fact) → Within z g → k.holds (on g) v ≡ true → Derives z (in_view k v ss) g)
      → (k.holds s.label v ≡ true → s ∈ in_view k v ss) → k.holds t v ≡ true → Derives z (in_view k v ss) f

  gives :
      (f : Fact) (t : L) (Asks : (Fact → L) → Type 0) → Within z f → Follows f t → (Covers k (on f) t → Asks on) → Gives f t Asks
  gives f t Asks within follows asked r at added p q g =
      turn_gain laws (ready_sound ready).has_top (s ∷ []) old new ready.room f within t
      (λ ss used just v l.
      follows ss v l (λ g w. just.derived g v (within_range z g w) l)
      (λ h. in_kept (λ q. k.holds q.label v) ss s (used s (inl refl)) (say h)))
      Asks asked r (subst (λ n. Gained k old n t r new) p (subst (λ a. Gained k old at a r new) q g))

  pub inclusion_turn :
      (x : ℕ) → x < nodes z → s.form ≡ 1 → Gives (member x s.third) (k.both s.label (on (member x s.first))) (AtNode k z s x)
  inclusion_turn x inx is =
      let name = names.form_1 is in
      gives _ _ (AtNode k z s x) (inx, name.1)
      (λ ss v l held from h.
      let b = both_parts s.label (on (member x s.first)) v l h in
      form_1 s (from b.0) is (held (member x s.first) (inx, name.0) b.1))
      (λ asked. record {
        form_1 = λ e. asked;
        form_2 = λ e. absurd (omega arith);
        form_3 = λ e. absurd (omega arith);
        form_4 = λ e. absurd (omega arith);
      })

  pub conjunction_turn :
      (x : ℕ) → x < nodes z → s.form ≡ 2
      → Gives (member x s.third) (k.both s.label (k.both (on (member x s.first)) (on (member x s.second)))) (AtNode k z s x)
  conjunction_turn x inx is =
      let name = names.form_2 is in
      gives _ _ (AtNode k z s x) (inx, name.2)
      (λ ss v l held from h.
      let b = both_parts s.label (k.both (on (member x s.first)) (on (member x s.second))) v l h in
      let d = both_parts (on (member x s.first)) (on (member x s.second)) v l b.1 in
      form_2 s (from b.0) is (held (member x s.first) (inx, name.0) d.0) (held (member x s.second) (inx, name.1) d.1))
      (λ asked. record {
        form_1 = λ e. absurd (omega arith);
        form_2 = λ e. asked;
        form_3 = λ e. absurd (omega arith);
        form_4 = λ e. absurd (omega arith);
      })

  pub existential_on_right_turn :
      (x : ℕ) → x < nodes z → s.form ≡ 3 → Gives (link x s.role s.third) (k.both s.label (on (member x s.first))) (AtNode k z s x)
  existential_on_right_turn x inx is =
      let name = names.form_3 is in
      gives _ _ (AtNode k z s x) (inx, name.1, omega (arith, name.2))
      (λ ss v l held from h.
      let b = both_parts s.label (on (member x s.first)) v l h in
      form_3 s (from b.0) is (held (member x s.first) (inx, name.0) b.1))
      (λ asked. record {
        form_1 = λ e. absurd (omega arith);
        form_2 = λ e. absurd (omega arith);
        form_3 = λ e. asked;
        form_4 = λ e. absurd (omega arith);
      })

  pub through_link_turn :
      (x y : ℕ) → x < nodes z → y < nodes z → s.form ≡ 4
      → Gives (member x s.third) (k.both s.label (k.both (on (link x s.role y)) (on (member y s.first)))) (AtLink k z s x y)
  through_link_turn x y inx iny is =
      let name = names.form_4 is in
      gives _ _ (AtLink k z s x y) (inx, name.2)
      (λ ss v l held from h.
      let b = both_parts s.label (k.both (on (link x s.role y)) (on (member y s.first))) v l h in
      let d = both_parts (on (link x s.role y)) (on (member y s.first)) v l b.1 in
      form_4 s (from b.0) is (held (link x s.role y) (inx, name.1, iny) d.0) (held (member y s.first) (iny, name.0) d.1))
      (λ asked. asked)

  no_node : ((n : ℕ) → n < 5 → s.form ≡ n → ⊥) → (x : ℕ) → x < nodes z → AtNode k z s x on
  no_node other x l =
      record {
        form_1 = λ e. absurd (other 1 (omega arith) e);
        form_2 = λ e. absurd (other 2 (omega arith) e);
        form_3 = λ e. absurd (other 3 (omega arith) e);
        form_4 = λ e. absurd (other 4 (omega arith) e);
      }

  pub concept_assertion_turn : s.form ≡ 5 → Gives (member (z.concepts + s.first) s.third) s.label (Obeys k z s)
  concept_assertion_turn is =
      let name = names.form_5 is in
      gives _ _ (Obeys k z s) (omega (arith, name.0), name.1) (λ ss v l held from h. form_5 s (from h) is)
      (λ asked. record {
        at_node = no_node (λ n l e. omega arith);
        form_5 = λ e. asked;
        form_6 = λ e. absurd (omega arith);
      })

  pub role_assertion_turn :
      s.form ≡ 6 → Gives (link (z.concepts + s.first) s.role (z.concepts + s.third)) s.label (Obeys k z s)
  role_assertion_turn is =
      let name = names.form_6 is in
      gives _ _ (Obeys k z s) (omega (arith, name.0), name.1, omega (arith, name.2)) (λ ss v l held from h. form_6 s (from h) is)
      (λ asked. record {
        at_node = no_node (λ n l e. omega arith);
        form_5 = λ e. absurd (omega arith);
        form_6 = λ e. asked;
      })
