-- Every book has exact labels: the rules, applied as often as there are facts. Assumes nothing.
use Rattle.std.proofs.Common.{◌≡◌, ℕ, zero, suc, ◌+◌, ◌<◌, ◌≤◌, Bool, true, false, cond, ◌&&◌, eqb, ltb, ◌⊎◌, ◌↔◌, List, [], ◌∷◌, ◌++◌, map, length, sym, refl, ap, ◌∙◌, subst, inl, inr, ⊎_elim, arith, ltb-true, lt-ltb, eq-eqb, eqb-true}
use native.Mathlib.Decide.{dec_lt}
use borrow.Author.Tests.{both_ways}
use Rattle.std.specs.List.{flat_map}
use Rattle.std.proofs.lemmas.Bool.{and_parts, and_from, or_cases, or_left, or_right}
use Rattle.labels.specs.Kind.{Kind, Lawful}
use Rattle.terms.specs.declared.Sizes.{Sizes}
use Rattle.terms.specs.declared.Sentence.{Sentence}
use Rattle.terms.specs.Lists.{◌∈◌, counting}
use Rattle.terms.specs.Places.{nodes, Fact, member, link}
use Rattle.terms.proofs.Placing.{Within}
use Rattle.theory.specs.Rules.{in_view, Derives, top, self, form_1, form_2, form_3, form_4, form_5, form_6, Exact, Least}
use Rattle.theory.proofs.Names.{SoundBook, within}
use Rattle.theory.proofs.Lists.{in_counting, of_counting, in_left, in_right}
use Rattle.theory.proofs.Labels.{in_its_view, of_view, view_sound, exact_least, least_exact}

-- one use of a rule
data Step {L : Type 0} (z : Sizes) (ss : List (Sentence L)) (P : Fact → Type 0) : Fact → Type 0 where
  by_top : {x : ℕ} → x < nodes z → Step z ss P (member x 0)
  by_self : {A : ℕ} → A < z.concepts → Step z ss P (member A A)
  by_1 : {x : ℕ} (s : Sentence L) → s ∈ ss → s.form ≡ 1 → P (member x s.first) → Step z ss P (member x s.third)
  by_2 :
      {x : ℕ} (s : Sentence L) → s ∈ ss → s.form ≡ 2 → P (member x s.first) → P (member x s.second) → Step z ss P (member x s.third)
  by_3 : {x : ℕ} (s : Sentence L) → s ∈ ss → s.form ≡ 3 → P (member x s.first) → Step z ss P (link x s.role s.third)
  by_4 :
      {x y : ℕ} (s : Sentence L) → s ∈ ss → s.form ≡ 4 → y < nodes z → P (link x s.role y) → P (member y s.first)
      → Step z ss P (member x s.third)
  by_5 : (s : Sentence L) → s ∈ ss → s.form ≡ 5 → Step z ss P (member (z.concepts + s.first) s.third)
  by_6 : (s : Sentence L) → s ∈ ss → s.form ≡ 6 → Step z ss P (link (z.concepts + s.first) s.role (z.concepts + s.third))

module _ {L : Type 0} (z : Sizes) (ss : List (Sentence L)) where
  step_map : (P Q : Fact → Type 0) → ((f : Fact) → P f → Q f) → {f : Fact} → Step z ss P f → Step z ss Q f
  step_map P Q h (by_top l) = by_top l
  step_map P Q h (by_self l) = by_self l
  step_map P Q h (by_1 s i q p) = by_1 s i q (h _ p)
  step_map P Q h (by_2 s i q p p') = by_2 s i q (h _ p) (h _ p')
  step_map P Q h (by_3 s i q p) = by_3 s i q (h _ p)
  step_map P Q h (by_4 s i q l p p') = by_4 s i q l (h _ p) (h _ p')
  step_map P Q h (by_5 s i q) = by_5 s i q
  step_map P Q h (by_6 s i q) = by_6 s i q

  step_derives : {f : Fact} → Step z ss (Derives z ss) f → Derives z ss f
  step_derives (by_top l) = top l
  step_derives (by_self l) = self l
  step_derives (by_1 s i q p) = form_1 s i q p
  step_derives (by_2 s i q p p') = form_2 s i q p p'
  step_derives (by_3 s i q p) = form_3 s i q p
  step_derives (by_4 s i q l p p') = form_4 s i q p p'
  step_derives (by_5 s i q) = form_5 s i q
  step_derives (by_6 s i q) = form_6 s i q

  -- what every step keeps holds all that follows
  derives_in : SoundBook z ss → (P : Fact → Type 0) → ((f : Fact) → Step z ss P f → P f) → (f : Fact) → Derives z ss f → P f
  derives_in g P h _ (top l) = h _ (by_top l)
  derives_in g P h _ (self l) = h _ (by_self l)
  derives_in g P h _ (form_1 s i q p) = h _ (by_1 s i q (derives_in g P h _ p))
  derives_in g P h _ (form_2 s i q p p') = h _ (by_2 s i q (derives_in g P h _ p) (derives_in g P h _ p'))
  derives_in g P h _ (form_3 s i q p) = h _ (by_3 s i q (derives_in g P h _ p))
  derives_in g P h _ (form_4 s i q p p') = h _ (by_4 s i q (within z ss g p').0 (derives_in g P h _ p) (derives_in g P h _ p'))
  derives_in g P h _ (form_5 s i q) = h _ (by_5 s i q)
  derives_in g P h _ (form_6 s i q) = h _ (by_6 s i q)

-- the facts in range, as a list
abbrev all_facts : Sizes → List Fact
all_facts z =
    flat_map (λ x. map (λ B. member x B) (counting 0 z.concepts)) (counting 0 (nodes z))
    ++ flat_map (λ x. flat_map (λ r. map (λ y. link x r y) (counting 0 (nodes z))) (counting 0 z.roles)) (counting 0 (nodes z))

in_map : {X Y : Type 0} (f : X → Y) (xs : List X) (x : X) → x ∈ xs → f x ∈ map f xs
in_map f [] x m = absurd m
in_map f (y ∷ xs) x (inl e) = inl (ap f e)
in_map f (y ∷ xs) x (inr m) = inr (in_map f xs x m)

in_joined : {X Y : Type 0} (f : X → List Y) (xs : List X) (x : X) (y : Y) → x ∈ xs → y ∈ f x → y ∈ flat_map f xs
in_joined f [] x y m n = absurd m
in_joined f (a ∷ xs) x y (inl e) n = in_left (f a) (flat_map f xs) y (subst (λ b. y ∈ f b) e n)
in_joined f (a ∷ xs) x y (inr m) n = in_right (f a) (flat_map f xs) y (in_joined f xs x y m n)

below : (n x : ℕ) → x < n → x ∈ counting 0 n
below n x l = in_counting 0 n x (omega arith) (omega arith)

under : (n x : ℕ) → x ∈ counting 0 n → x < n
under n x m = let h = of_counting 0 n x m in omega arith

listed : (z : Sizes) (f : Fact) → Within z f → f ∈ all_facts z
listed z (member x B) h =
    in_left (flat_map (λ x. map (λ B. member x B) (counting 0 z.concepts)) (counting 0 (nodes z))) _ (member x B)
    (in_joined (λ x. map (λ B. member x B) (counting 0 z.concepts)) (counting 0 (nodes z)) x (member x B) (below (nodes z) x h.0)
    (in_map (λ B. member x B) (counting 0 z.concepts) B (below z.concepts B h.1)))
listed z (link x r y) h =
    in_right (flat_map (λ x. map (λ B. member x B) (counting 0 z.concepts)) (counting 0 (nodes z))) _ (link x r y)
    (in_joined (λ x. flat_map (λ r. map (λ y. link x r y) (counting 0 (nodes z))) (counting 0 z.roles)) (counting 0 (nodes z)) x (link x r y)
    (below (nodes z) x h.0)
    (in_joined (λ r. map (λ y. link x r y) (counting 0 (nodes z))) (counting 0 z.roles) r (link x r y) (below z.roles r h.1)
    (in_map (λ y. link x r y) (counting 0 (nodes z)) y (below (nodes z) y h.2))))

one : (t : Bool) → cond {A = ℕ} t 1 0 ≤ 1
one true = omega arith
one false = omega arith

one_more : (s t : Bool) → (s ≡ true → t ≡ true) → cond {A = ℕ} s 1 0 ≤ cond {A = ℕ} t 1 0
one_more true true h = omega arith
one_more true false h = absurd (both_ways false refl (h refl))
one_more false true h = omega arith
one_more false false h = omega arith

one_less : (s t : Bool) → cond {A = ℕ} t 1 0 ≤ cond {A = ℕ} s 1 0 → t ≡ true → s ≡ true
one_less true t h e = refl
one_less false true h e = absurd (omega (arith, h))
one_less false false h e = e

-- how many of a list pass
tally : {X : Type 0} → (X → Bool) → List X → ℕ
tally p [] = 0
tally p (x ∷ xs) = cond (p x) 1 0 + tally p xs

module _ {X : Type 0} where
  tally_most : (p : X → Bool) (xs : List X) → tally p xs ≤ length xs
  unfolding tally
  tally_most p [] = omega arith
  tally_most p (x ∷ xs) = let h = one (p x) in let k = tally_most p xs in omega arith

  module _ (p q : X → Bool) (more : (x : X) → p x ≡ true → q x ≡ true) where
    tally_more : (xs : List X) → tally p xs ≤ tally q xs
    unfolding tally
    tally_more [] = omega arith
    tally_more (x ∷ xs) = let h = one_more (p x) (q x) (more x) in let k = tally_more xs in omega arith

    tally_same : (xs : List X) → tally q xs ≤ tally p xs → (x : X) → x ∈ xs → q x ≡ true → p x ≡ true
    unfolding tally
    tally_same [] h x m e = absurd m
    tally_same (y ∷ xs) h x (inl r) e =
        let k = tally_more xs in
        subst (λ a. p a ≡ true) (sym r) (one_less (p y) (q y) (omega arith) (subst (λ a. q a ≡ true) r e))
    tally_same (y ∷ xs) h x (inr m) e =
        let k = one_more (p y) (q y) (more y) in
        tally_same xs (omega arith) x m e

module _ {L : Type 0} (k : Kind L) where
  abbrev when : Bool → L → L
  when t l = cond t l k.none

  sum : {X : Type 0} → (X → L) → List X → L
  sum h [] = k.none
  sum h (x ∷ xs) = k.either (h x) (sum h xs)

  module _ (z : Sizes) (ss : List (Sentence L)) where
    abbrev base : Fact → L
    base (member x B) = k.either (when (eqb B 0 && ltb x (nodes z)) k.all) (when (eqb B x && ltb x z.concepts) k.all)
    base (link x r y) = k.none

    abbrev through : (Fact → L) → Sentence L → ℕ → ℕ → L
    through lab s x y = k.both (lab (link x s.role y)) (lab (member y s.first))

    abbrev gift : (Fact → L) → Fact → Sentence L → L
    gift lab (member x B) s =
        when (eqb B s.third)
        (k.both s.label
        (k.either (when (eqb s.form 1) (lab (member x s.first)))
        (k.either (when (eqb s.form 2) (k.both (lab (member x s.first)) (lab (member x s.second))))
        (k.either (when (eqb s.form 4) (sum (through lab s x) (counting 0 (nodes z))))
        (when (eqb s.form 5 && eqb x (z.concepts + s.first)) k.all)))))
    gift lab (link x r y) s =
        when (eqb r s.role)
        (k.both s.label
        (k.either (when (eqb s.form 3 && eqb y s.third) (lab (member x s.first)))
        (when (eqb s.form 6 && (eqb x (z.concepts + s.first) && eqb y (z.concepts + s.third))) k.all)))

    abbrev once : (Fact → L) → Fact → L
    once lab f = k.either (base f) (sum (gift lab f) ss)

    often : ℕ → Fact → L
    often zero f = k.none
    often (suc n) f = once (often n) f

  module _ (laws : Lawful k) (v : ℕ) (l : v < k.views) where
    abbrev H : L → Type 0
    H a = k.holds a v ≡ true

    none_no : H k.none → ⊥
    none_no h = both_ways (k.holds k.none v) (laws.none_holds v l) h

    all_in : H k.all
    all_in = laws.all_holds v l

    either_of : (a b : L) → H (k.either a b) → H a ⊎ H b
    either_of a b h = or_cases (k.holds a v) (k.holds b v) (sym (laws.either_holds a b v l) ∙ h)

    either_left : (a b : L) → H a → H (k.either a b)
    either_left a b h = laws.either_holds a b v l ∙ or_left (k.holds a v) (k.holds b v) h

    either_right : (a b : L) → H b → H (k.either a b)
    either_right a b h = laws.either_holds a b v l ∙ or_right (k.holds a v) (k.holds b v) h

    both_of : (a b : L) → H (k.both a b) → H a × H b
    both_of a b h = and_parts (k.holds a v) (k.holds b v) (sym (laws.both_holds a b v l) ∙ h)

    both_in : (a b : L) → H a → H b → H (k.both a b)
    both_in a b h h' = laws.both_holds a b v l ∙ and_from (k.holds a v) (k.holds b v) h h'

    when_of : (t : Bool) (a : L) → H (when t a) → (t ≡ true) × H a
    when_of true a h = (refl, h)
    when_of false a h = absurd (none_no h)

    when_in : (t : Bool) (a : L) → t ≡ true → H a → H (when t a)
    when_in true a e h = h
    when_in false a e h = absurd (both_ways false refl e)

    sum_of : {X : Type 0} (g : X → L) (xs : List X) → H (sum g xs) → (x : X) × (x ∈ xs) × H (g x)
    unfolding sum
    sum_of g [] h = absurd (none_no h)
    sum_of {X} g (x ∷ xs) h = go (sum_of g xs) (either_of (g x) (sum g xs) h)
      where
        go : (H (sum g xs) → (y : X) × (y ∈ xs) × H (g y)) → H (g x) ⊎ H (sum g xs) → (y : X) × (y ∈ (x ∷ xs)) × H (g y)
        go rec (inl a) = (x, inl refl, a)
        go rec (inr b) = let r = rec b in (r.0, inr r.1, r.2)

    sum_in : {X : Type 0} (g : X → L) (xs : List X) (x : X) → x ∈ xs → H (g x) → H (sum g xs)
    unfolding sum
    sum_in g [] x m h = absurd m
    sum_in g (y ∷ xs) x (inl e) h = either_left (g y) (sum g xs) (subst (λ a. H (g a)) e h)
    sum_in g (y ∷ xs) x (inr m) h = either_right (g y) (sum g xs) (sum_in g xs x m h)

    module _ (z : Sizes) (ss : List (Sentence L)) (g : SoundBook z ss) where
      abbrev V : List (Sentence L)
      V = in_view k v ss

      gift_member : (lab : Fact → L) (x B : ℕ) (s : Sentence L) → s ∈ ss → H (gift z ss lab (member x B) s) → Step z V (λ f. H (lab f)) (member x B)
      gift_member lab x B s m h =
          let a = when_of (eqb B s.third) _ h in
          let b = both_of s.label _ a.1 in
          let i = in_its_view k z ss laws g v s m b.0 in
          subst (λ B. Step z V (λ f. H (lab f)) (member x B)) (sym (eqb-true B s.third a.0))
          (⊎_elim (λ c. let d = when_of (eqb s.form 1) _ c in by_1 s i (eqb-true s.form 1 d.0) d.1)
          (λ c. ⊎_elim (λ c. let d = when_of (eqb s.form 2) _ c in let e = both_of _ _ d.1 in by_2 s i (eqb-true s.form 2 d.0) e.0 e.1)
          (λ c. ⊎_elim
          (λ c.
          let d = when_of (eqb s.form 4) _ c in
          let e = sum_of (through z ss lab s x) (counting 0 (nodes z)) d.1 in
          let n = both_of _ _ e.2 in
          by_4 s i (eqb-true s.form 4 d.0) (under (nodes z) e.0 e.1) n.0 n.1)
          (λ c.
          let d = when_of (eqb s.form 5 && eqb x (z.concepts + s.first)) _ c in
          let e = and_parts (eqb s.form 5) (eqb x (z.concepts + s.first)) d.0 in
          subst (λ x. Step z V (λ f. H (lab f)) (member x s.third)) (sym (eqb-true x (z.concepts + s.first) e.1))
          (by_5 s i (eqb-true s.form 5 e.0)))
          (either_of _ _ c)) (either_of _ _ c)) (either_of _ _ b.1))

      gift_link : (lab : Fact → L) (x r y : ℕ) (s : Sentence L) → s ∈ ss → H (gift z ss lab (link x r y) s) → Step z V (λ f. H (lab f)) (link x r y)
      gift_link lab x r y s m h =
          let a = when_of (eqb r s.role) _ h in
          let b = both_of s.label _ a.1 in
          let i = in_its_view k z ss laws g v s m b.0 in
          subst (λ r. Step z V (λ f. H (lab f)) (link x r y)) (sym (eqb-true r s.role a.0))
          (⊎_elim
          (λ c.
          let d = when_of (eqb s.form 3 && eqb y s.third) _ c in
          let e = and_parts (eqb s.form 3) (eqb y s.third) d.0 in
          subst (λ y. Step z V (λ f. H (lab f)) (link x s.role y)) (sym (eqb-true y s.third e.1))
          (by_3 s i (eqb-true s.form 3 e.0) d.1))
          (λ c.
          let d = when_of (eqb s.form 6 && (eqb x (z.concepts + s.first) && eqb y (z.concepts + s.third))) _ c in
          let e = and_parts (eqb s.form 6) _ d.0 in
          let n = and_parts (eqb x (z.concepts + s.first)) (eqb y (z.concepts + s.third)) e.1 in
          subst (λ x. Step z V (λ f. H (lab f)) (link x s.role y)) (sym (eqb-true x (z.concepts + s.first) n.0))
          (subst (λ y. Step z V (λ f. H (lab f)) (link (z.concepts + s.first) s.role y)) (sym (eqb-true y (z.concepts + s.third) n.1))
          (by_6 s i (eqb-true s.form 6 e.0))))
          (either_of _ _ b.1))

      step_of : (lab : Fact → L) (f : Fact) → H (once z ss lab f) → Step z V (λ f. H (lab f)) f
      step_of lab (member x B) h =
          ⊎_elim
          (λ c. ⊎_elim
          (λ c.
          let d = when_of (eqb B 0 && ltb x (nodes z)) _ c in
          let e = and_parts (eqb B 0) (ltb x (nodes z)) d.0 in
          subst (λ B. Step z V (λ f. H (lab f)) (member x B)) (sym (eqb-true B 0 e.0)) (by_top (ltb-true x (nodes z) e.1)))
          (λ c.
          let d = when_of (eqb B x && ltb x z.concepts) _ c in
          let e = and_parts (eqb B x) (ltb x z.concepts) d.0 in
          subst (λ B. Step z V (λ f. H (lab f)) (member x B)) (sym (eqb-true B x e.0)) (by_self (ltb-true x z.concepts e.1)))
          (either_of _ _ c))
          (λ c. let d = sum_of (gift z ss lab (member x B)) ss c in gift_member lab x B d.0 d.1 d.2) (either_of _ _ h)
      step_of lab (link x r y) h =
          ⊎_elim (λ c. absurd (none_no c))
          (λ c. let d = sum_of (gift z ss lab (link x r y)) ss c in gift_link lab x r y d.0 d.1 d.2) (either_of _ _ h)

      given : (lab : Fact → L) (f : Fact) (s : Sentence L) → s ∈ ss → H (gift z ss lab f s) → H (once z ss lab f)
      given lab f s m h = either_right (base z ss f) (sum (gift z ss lab f) ss) (sum_in (gift z ss lab f) ss s m h)

      step_in : (lab : Fact → L) (f : Fact) → Step z V (λ f. H (lab f)) f → H (once z ss lab f)
      step_in lab _ (by_top {x = x} h) =
          either_left _ _ (either_left _ _ (when_in _ _ (and_from (eqb 0 0) (ltb x (nodes z)) refl (lt-ltb x (nodes z) h)) all_in))
      step_in lab _ (by_self {A = A} h) =
          either_left _ _
          (either_right _ _ (when_in _ _ (and_from (eqb A A) (ltb A z.concepts) (eq-eqb A A refl) (lt-ltb A z.concepts h)) all_in))
      step_in lab _ (by_1 {x = x} s i q p) =
          let o = of_view k z ss laws g v s i in
          given lab (member x s.third) s o.1
          (when_in _ _ (eq-eqb s.third s.third refl) (both_in _ _ o.0 (either_left _ _ (when_in _ _ (eq-eqb s.form 1 q) p))))
      step_in lab _ (by_2 {x = x} s i q p p') =
          let o = of_view k z ss laws g v s i in
          given lab (member x s.third) s o.1
          (when_in _ _ (eq-eqb s.third s.third refl)
          (both_in _ _ o.0 (either_right _ _ (either_left _ _ (when_in _ _ (eq-eqb s.form 2 q) (both_in _ _ p p'))))))
      step_in lab _ (by_3 {x = x} s i q p) =
          let o = of_view k z ss laws g v s i in
          given lab (link x s.role s.third) s o.1
          (when_in _ _ (eq-eqb s.role s.role refl)
          (both_in _ _ o.0
          (either_left _ _ (when_in _ _ (and_from (eqb s.form 3) (eqb s.third s.third) (eq-eqb s.form 3 q) (eq-eqb s.third s.third refl)) p))))
      step_in lab _ (by_4 {x = x} {y = y} s i q n p p') =
          let o = of_view k z ss laws g v s i in
          given lab (member x s.third) s o.1
          (when_in _ _ (eq-eqb s.third s.third refl)
          (both_in _ _ o.0
          (either_right _ _
          (either_right _ _
          (either_left _ _
          (when_in _ _ (eq-eqb s.form 4 q)
          (sum_in (through z ss lab s x) (counting 0 (nodes z)) y (below (nodes z) y n) (both_in _ _ p p'))))))))
      step_in lab _ (by_5 s i q) =
          let o = of_view k z ss laws g v s i in
          let a : ℕ = z.concepts + s.first in
          given lab (member (z.concepts + s.first) s.third) s o.1
          (when_in _ _ (eq-eqb s.third s.third refl)
          (both_in _ _ o.0
          (either_right _ _
          (either_right _ _ (either_right _ _ (when_in _ _ (and_from (eqb s.form 5) (eqb a a) (eq-eqb s.form 5 q) (eq-eqb a a refl)) all_in))))))
      step_in lab _ (by_6 s i q) =
          let o = of_view k z ss laws g v s i in
          let a : ℕ = z.concepts + s.first in
          let b : ℕ = z.concepts + s.third in
          given lab (link (z.concepts + s.first) s.role (z.concepts + s.third)) s o.1
          (when_in _ _ (eq-eqb s.role s.role refl)
          (both_in _ _ o.0
          (either_right _ _
          (when_in _ _
          (and_from (eqb s.form 6) (eqb a a && eqb b b) (eq-eqb s.form 6 q) (and_from (eqb a a) (eqb b b) (eq-eqb a a refl) (eq-eqb b b refl)))
          all_in))))

      abbrev Held : ℕ → Fact → Type 0
      Held n f = H (often z ss n f)

      sound_often : (n : ℕ) (f : Fact) → Held n f → Derives z V f
      unfolding often
      sound_often zero f h = absurd (none_no h)
      sound_often (suc n) f h = step_derives z V (step_map z V (Held n) (Derives z V) (sound_often n) (step_of (often z ss n) f h))

      grows : (n : ℕ) (f : Fact) → Held n f → Held (suc n) f
      unfolding often
      grows zero f h = absurd (none_no h)
      grows (suc n) f h = step_in (often z ss (suc n)) f (step_map z V (Held n) (Held (suc n)) (grows n) (step_of (often z ss n) f h))

      -- nothing more is held after one more use of the rules
      abbrev Still : ℕ → Type 0
      Still n = (f : Fact) → Held (suc n) f → Held n f

      still : (n : ℕ) → Still n → Still (suc n)
      unfolding often
      still n h f a = step_in (often z ss n) f (step_map z V (Held (suc n)) (Held n) h (step_of (often z ss (suc n)) f a))

      abbrev held_count : ℕ → ℕ
      held_count n = tally (λ f. k.holds (often z ss n f) v) (all_facts z)

      flat : (n : ℕ) → held_count (suc n) ≤ held_count n → Still n
      flat n c f a =
          tally_same (λ f. k.holds (often z ss n f) v) (λ f. k.holds (often z ss (suc n) f) v) (grows n) (all_facts z) c f
          (listed z f (within z V (view_sound k z ss laws g v) (sound_often (suc n) f a))) a

      rises : (n : ℕ) → Still n ⊎ (held_count n < held_count (suc n))
      rises n = go (dec_lt (held_count n) (held_count (suc n)))
        where
          go : Dec (held_count n < held_count (suc n)) → Still n ⊎ (held_count n < held_count (suc n))
          go (yes h) = inr h
          go (no h) = inl (flat n (omega (arith, h)))

      reached : (n : ℕ) → Still n ⊎ (suc n ≤ held_count (suc n))
      reached zero = ⊎_elim inl (λ c. inr (omega (arith, c))) (rises 0)
      reached (suc n) =
          ⊎_elim (λ h. inl (still n h)) (λ c. ⊎_elim inl (λ d. inr (omega (arith, c, d))) (rises (suc n))) (reached n)

      at_rest : Still (length (all_facts z))
      at_rest =
          let n : ℕ = length (all_facts z) in
          let m : held_count (suc n) ≤ n = tally_most (λ f. k.holds (often z ss (suc n) f) v) (all_facts z) in
          ⊎_elim (λ h. h) (λ c. absurd (omega (arith, c, m))) (reached n)

      held_just : (f : Fact) → Held (length (all_facts z)) f ↔ Derives z V f
      unfolding often
      held_just f = (
        sound_often (length (all_facts z)) f,
        derives_in z V (view_sound k z ss laws g v) (Held (length (all_facts z)))
            (λ f p. at_rest f (step_in (often z ss (length (all_facts z))) f p)) f,
      )

  pub exact_labels : (z : Sizes) (ss : List (Sentence L)) → Lawful k → SoundBook z ss → (label : Fact → L) × Exact k z ss label
  exact_labels z ss laws g = (often z ss (length (all_facts z)), λ f v r l. held_just laws v l z ss g f)

  pub least_labels : (z : Sizes) (ss : List (Sentence L)) → Lawful k → SoundBook z ss → (label : Fact → L) × Least k z ss label
  least_labels z ss laws g = let e = exact_labels z ss laws g in (e.0, exact_least k z ss laws g e.0 e.1)

  pub least_are_exact : (z : Sizes) (ss : List (Sentence L)) → Lawful k → SoundBook z ss → (label : Fact → L) → Least k z ss label → Exact k z ss label
  least_are_exact z ss laws g label m = let e = exact_labels z ss laws g in least_exact k z ss laws g e.0 e.1 label m
