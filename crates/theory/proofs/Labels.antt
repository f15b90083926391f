-- Exact labels are least, and least labels are all alike; the sentences of a view are a book that can be. Assumes nothing.
use Rattle.std.proofs.Common.{◌≡◌, ℕ, ◌<◌, ◌≤◌, Bool, true, false, cond, not, ◌&&◌, T, List, [], ◌∷◌, length, filter, sym, refl, ◌∙◌, arith, le-leb, leb-true}
use Rattle.std.proofs.lemmas.Bool.{and_parts, and_from}
use Rattle.labels.specs.Kind.{Kind, Lawful}
use Rattle.terms.specs.declared.Sizes.{Sizes}
use Rattle.terms.specs.declared.Sentence.{Sentence}
use Rattle.terms.specs.Lists.{◌∈◌, each}
use Rattle.terms.specs.Sentences.{well_formed, holdable}
use Rattle.terms.specs.Places.{outside_limits, Fact, member, link, in_range}
use Rattle.terms.proofs.Truths.{say, said}
use Rattle.terms.proofs.Placing.{Within, within_range}
use Rattle.theory.specs.Rules.{in_view, Derives, top, self, form_1, form_2, form_3, form_4, form_5, form_6, Satisfies, Least, Exact}
use Rattle.theory.specs.Entailed.{ShowsDerived}
use Rattle.theory.proofs.Names.{SoundBook, within}
use Rattle.theory.proofs.Lists.{in_kept, of_kept}

-- the sentences that pass a test are a book that can be, where all of them are
each_kept : {X : Type 0} (p t : X → Bool) (xs : List X) → each t xs ≡ true → each t (filter p xs) ≡ true
each_kept p t [] h = refl
each_kept p t (x ∷ xs) h = let h' = and_parts (t x) (each t xs) h in go (p x) h'.0 (each_kept p t xs h'.1)
  where
    go : (b : Bool) → t x ≡ true → each t (filter p xs) ≡ true → each t (cond b (x ∷ filter p xs) (filter p xs)) ≡ true
    go true here rest = and_from (t x) _ here rest
    go false here rest = rest

kept_short : {X : Type 0} (p : X → Bool) (xs : List X) → length (filter p xs) ≤ length xs
kept_short p [] = omega arith
kept_short p (x ∷ xs) = go (p x) (kept_short p xs)
  where
    go : (b : Bool) → length (filter p xs) ≤ length xs → length (cond b (x ∷ filter p xs) (filter p xs)) ≤ length (x ∷ xs)
    go true h = omega arith
    go false h = omega arith

pub view_holdable :
    {L : Type 0} (k : Kind L) (v cells : ℕ) (z : Sizes) (ss : List (Sentence L))
    → holdable cells z ss ≡ true → holdable cells z (in_view k v ss) ≡ true
view_holdable k v cells z ss h =
    let p = and_parts (not (outside_limits z)) _ h in
    let q = and_parts (each (well_formed z) ss) _ p.1 in
    let l = leb-true (length ss) cells q.1 in
    let m = kept_short (λ s. k.holds s.label v) ss in
    and_from (not (outside_limits z)) _ p.0
    (and_from (each (well_formed z) (in_view k v ss)) _ (each_kept (λ s. k.holds s.label v) (well_formed z) ss q.0)
    (le-leb (length (in_view k v ss)) cells (omega (arith, l, m))))

module _ {L : Type 0} (k : Kind L) (z : Sizes) (ss : List (Sentence L)) (laws : Lawful k) (g : SoundBook z ss) where
  pub in_its_view : (v : ℕ) (s : Sentence L) → s ∈ ss → k.holds s.label v ≡ true → s ∈ in_view k v ss
  in_its_view v s m h = in_kept (λ s. k.holds s.label v) ss s m (say h)

  pub of_view : (v : ℕ) (s : Sentence L) → s ∈ in_view k v ss → (k.holds s.label v ≡ true) × (s ∈ ss)
  of_view v s m = let r = of_kept (λ s. k.holds s.label v) ss s m in (said _ r.0, r.1)

  pub view_sound : (v : ℕ) → SoundBook z (in_view k v ss)
  view_sound v = record { has_top = g.has_top; proper = λ s m. g.proper s (of_view v s m).1 }

  pub both_of : (a b : L) (v : ℕ) → v < k.views → k.holds (k.both a b) v ≡ true → (k.holds a v ≡ true) × (k.holds b v ≡ true)
  both_of a b v l h = and_parts (k.holds a v) (k.holds b v) (sym (laws.both_holds a b v l) ∙ h)

  pub both_in : (a b : L) (v : ℕ) → v < k.views → k.holds a v ≡ true → k.holds b v ≡ true → k.holds (k.both a b) v ≡ true
  both_in a b v l h h' = laws.both_holds a b v l ∙ and_from (k.holds a v) (k.holds b v) h h'

  -- what follows in a view is held by every labelling that satisfies the rules
  pub inside :
      (label : Fact → L) → Satisfies k z ss label → (v : ℕ) → v < k.views → {f : Fact} → Derives z (in_view k v ss) f → k.holds (label f) v ≡ true
  inside label c v l (top h) = c.top _ h v l (laws.all_holds v l)
  inside label c v l (self h) = c.self _ h v l (laws.all_holds v l)
  inside label c v l (form_1 s i q p) =
      let o = of_view v s i in
      c.form_1 _ s (within z (in_view k v ss) (view_sound v) p).0 o.1 q v l (both_in _ _ v l o.0 (inside label c v l p))
  inside label c v l (form_2 s i q p p') =
      let o = of_view v s i in
      c.form_2 _ s (within z (in_view k v ss) (view_sound v) p).0 o.1 q v l
      (both_in _ _ v l o.0 (both_in _ _ v l (inside label c v l p) (inside label c v l p')))
  inside label c v l (form_3 s i q p) =
      let o = of_view v s i in
      c.form_3 _ s (within z (in_view k v ss) (view_sound v) p).0 o.1 q v l (both_in _ _ v l o.0 (inside label c v l p))
  inside label c v l (form_4 s i q p p') =
      let o = of_view v s i in
      c.form_4 _ _ s (within z (in_view k v ss) (view_sound v) p).0 (within z (in_view k v ss) (view_sound v) p').0 o.1 q v l
      (both_in _ _ v l o.0 (both_in _ _ v l (inside label c v l p) (inside label c v l p')))
  inside label c v l (form_5 s i q) = let o = of_view v s i in c.form_5 s o.1 q v l o.0
  inside label c v l (form_6 s i q) = let o = of_view v s i in c.form_6 s o.1 q v l o.0

  module _ (label : Fact → L) (e : Exact k z ss label) where
    up : (v : ℕ) → v < k.views → {f : Fact} → Derives z (in_view k v ss) f → k.holds (label f) v ≡ true
    up v l {f} p = (e f v (within_range z f (within z (in_view k v ss) (view_sound v) p)) l).1 p

    down : (f : Fact) → Within z f → (v : ℕ) → v < k.views → k.holds (label f) v ≡ true → Derives z (in_view k v ss) f
    down f i v l h = (e f v (within_range z f i) l).0 h

    exact_satisfies : Satisfies k z ss label
    exact_satisfies =
        record {
          top = λ x h v l a. up v l (top h);
          self = λ A h v l a. up v l (self h);
          form_1 = λ x s n i q v l a.
              let b = both_of _ _ v l a in
              let o = (g.proper s i).form_1 q in
              up v l (form_1 s (in_its_view v s i b.0) q (down (member x s.first) (n, o.0) v l b.1));
          form_2 = λ x s n i q v l a.
              let b = both_of _ _ v l a in
              let c = both_of _ _ v l b.1 in
              let o = (g.proper s i).form_2 q in
              up v l (form_2 s (in_its_view v s i b.0) q (down (member x s.first) (n, o.0) v l c.0) (down (member x s.second) (n, o.1) v l c.1));
          form_3 = λ x s n i q v l a.
              let b = both_of _ _ v l a in
              let o = (g.proper s i).form_3 q in
              up v l (form_3 s (in_its_view v s i b.0) q (down (member x s.first) (n, o.0) v l b.1));
          form_4 = λ x y s n n' i q v l a.
              let b = both_of _ _ v l a in
              let c = both_of _ _ v l b.1 in
              let o = (g.proper s i).form_4 q in
              up v l (form_4 s (in_its_view v s i b.0) q (down (link x s.role y) (n, o.1, n') v l c.0) (down (member y s.first) (n', o.0) v l c.1));
          form_5 = λ s i q v l a. up v l (form_5 s (in_its_view v s i a) q);
          form_6 = λ s i q v l a. up v l (form_6 s (in_its_view v s i a) q);
        }

    pub exact_least : Least k z ss label
    exact_least = record { satisfies = exact_satisfies; least = λ other c f r v l h. inside other c v l ((e f v r l).0 h) }

    -- the facts that the labels hold in a view are just those that follow in it
    pub exact_shows : (v : ℕ) → v < k.views → ShowsDerived z (in_view k v ss) (λ f. in_range z f && k.holds (label f) v)
    exact_shows v l f = (
      λ h. let p = and_parts (in_range z f) (k.holds (label f) v) (said _ h) in (e f v (say p.0) l).0 p.1,
      λ d. say (and_from (in_range z f) _ (said _ (within_range z f (within z (in_view k v ss) (view_sound v) d))) (up v l d)),
    )

    -- where there are exact labels at all, the least labels are exact
    pub least_exact : (other : Fact → L) → Least k z ss other → Exact k z ss other
    least_exact other m f v r l =
        (λ h. (e f v r l).0 (m.least label exact_satisfies f r v l h), λ p. inside other m.satisfies v l p)

  same_held : (a b : Bool) → (a ≡ true → b ≡ true) → (b ≡ true → a ≡ true) → a ≡ b
  same_held true b h h' = sym (h refl)
  same_held false true h h' = h' refl
  same_held false false h h' = refl

  -- two least labellings have the same numbers
  pub least_alike : (a b : Fact → L) → Least k z ss a → Least k z ss b → (f : Fact) → T (in_range z f) → k.number (a f) ≡ k.number (b f)
  least_alike a b m n f r =
      laws.same_number (a f) (b f)
      (λ v l. same_held (k.holds (a f) v) (k.holds (b f) v) (m.least b n.satisfies f r v l) (n.least a m.satisfies f r v l))
