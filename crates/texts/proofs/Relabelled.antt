-- Sentences whose labels have the same numbers: they ask the same of labels. Assumes nothing.
use Rattle.std.proofs.Common.{◌≡◌, ℕ, zero, suc, ◌&&◌, List, [], ◌∷◌, ◌++◌, map, length, take, drop, sym, refl, ap, ◌∙◌, subst, inl, inr, arith}
use Rattle.std.specs.List.{remove}
use Rattle.labels.specs.Kind.{Kind, Lawful, Covers}
use Rattle.terms.specs.declared.Sizes.{Sizes}
use Rattle.terms.specs.declared.Sentence.{Sentence}
use Rattle.terms.specs.Lists.{◌∈◌, each}
use Rattle.terms.specs.Places.{Fact}
use Rattle.terms.specs.Sentences.{well_formed}
use Rattle.theory.specs.Rules.{Satisfies, Least}
use Rattle.texts.specs.Lines.{numbered}

module _ {L : Type 0} (k : Kind L) where
  abbrev pub NumberedAlike : List (Sentence L) → List (Sentence L) → Type 0
  NumberedAlike ts ss = map (numbered k) ts ≡ map (numbered k) ss

  pub length_numbered : (ss : List (Sentence L)) → length (map (numbered k) ss) ≡ length ss
  length_numbered [] = refl
  length_numbered (s ∷ ss) = ap suc (length_numbered ss)

  pub alike_long : (ss ts : List (Sentence L)) → NumberedAlike ts ss → length ts ≡ length ss
  alike_long ss ts e = sym (length_numbered ts) ∙ ap length e ∙ length_numbered ss

  pub map_append : (ss ts : List (Sentence L)) → map (numbered k) (ss ++ ts) ≡ map (numbered k) ss ++ map (numbered k) ts
  map_append [] ts = refl
  map_append (s ∷ ss) ts = ap (λ l. numbered k s ∷ l) (map_append ss ts)

  map_take : (n : ℕ) (ss : List (Sentence L)) → map (numbered k) (take n ss) ≡ take n (map (numbered k) ss)
  map_take zero ss = refl
  map_take (suc n) [] = refl
  map_take (suc n) (s ∷ ss) = ap (λ l. numbered k s ∷ l) (map_take n ss)

  map_drop : (n : ℕ) (ss : List (Sentence L)) → map (numbered k) (drop n ss) ≡ drop n (map (numbered k) ss)
  map_drop zero ss = refl
  map_drop (suc n) [] = refl
  map_drop (suc n) (s ∷ ss) = map_drop n ss

  pub map_removed : (ss : List (Sentence L)) (i : ℕ) → map (numbered k) (remove ss i) ≡ remove (map (numbered k) ss) i
  map_removed ss i =
      map_append (take i ss) (drop (suc i) ss) ∙ ap (λ l. l ++ map (numbered k) (drop (suc i) ss)) (map_take i ss)
      ∙ ap (λ l. take i (map (numbered k) ss) ++ l) (map_drop (suc i) ss)

  pub formed_numbered : (z : Sizes) (ss : List (Sentence L)) → each (well_formed z) (map (numbered k) ss) ≡ each (well_formed z) ss
  formed_numbered z [] = refl
  formed_numbered z (s ∷ ss) = ap (λ t. well_formed z s && t) (formed_numbered z ss)

  -- a sentence of the one list has a fellow in the other
  fellow : (ss ts : List (Sentence L)) → NumberedAlike ts ss → (s : Sentence L) → s ∈ ss → (t : Sentence L) × (t ∈ ts) × (numbered k t ≡ numbered k s)
  fellow [] ts e s m = absurd m
  fellow (x ∷ ss) [] e s m = let z : ◌≡◌ {A = ℕ} 0 1 = cc in absurd (omega arith)
  fellow (x ∷ ss) (y ∷ ts) e s (inl q) = (y, inl refl, heads.0 ∙ ap (numbered k) (sym q))
    where
      heads : (numbered k y ≡ numbered k x) × NumberedAlike ts ss
      heads = (cc, cc)
  fellow (x ∷ ss) (y ∷ ts) e s (inr m) = let f = fellow ss ts tails s m in (f.0, inr f.1, f.2)
    where
      tails : NumberedAlike ts ss
      tails = cc

  -- the sentence with another label
  abbrev with_label : Sentence L → L → Sentence L
  with_label s m = record { form = s.form; first = s.first; second = s.second; role = s.role; third = s.third; label = m }

  -- a sentence of the one list, but for a label of the same number, is one of the other
  twin : (ss ts : List (Sentence L)) → NumberedAlike ts ss → (s : Sentence L) → s ∈ ss → (m : L) × (with_label s m ∈ ts) × (k.number m ≡ k.number s.label)
  twin ss ts e s i =
      let f = fellow ss ts e s i in
      let t = f.0 in
      let same = f.2 in
      let is : t ≡ with_label s t.label =
      λ j. record { form = (same j).form; first = (same j).first; second = (same j).second; role = (same j).role; third = (same j).third; label = t.label } in
      (t.label, subst (λ (x : Sentence L). x ∈ ts) is f.1, ap (λ (x : Sentence ℕ). x.label) same)

  module _ (laws : Lawful k) where
    cover_then : (a b c : L) → Covers k a b → Covers k b c → Covers k a c
    cover_then a b c g h v l held = g v l (h v l held)

    alike_covers : (a b : L) → k.number a ≡ k.number b → Covers k a b
    alike_covers a b same v l h = laws.same_views a b same v l ∙ h

    both_covers : (a b x : L) → k.number a ≡ k.number b → Covers k (k.both a x) (k.both b x)
    both_covers a b x same v l h =
        laws.both_holds a x v l ∙ ap (λ t. t && k.holds x v) (laws.same_views a b same v l) ∙ sym (laws.both_holds b x v l) ∙ h

    module _ (z : Sizes) (ss ts : List (Sentence L)) (e : NumberedAlike ts ss) where
      -- labels that satisfy the one list satisfy the other
      satisfies_alike : (label : Fact → L) → Satisfies k z ts label → Satisfies k z ss label
      satisfies_alike label c =
          record {
            top = c.top;
            self = c.self;
            form_1 = λ x s n i q. let t = twin ss ts e s i in cover_then _ _ _ (c.form_1 x (with_label s t.0) n t.1 q) (both_covers t.0 s.label _ t.2);
            form_2 = λ x s n i q. let t = twin ss ts e s i in cover_then _ _ _ (c.form_2 x (with_label s t.0) n t.1 q) (both_covers t.0 s.label _ t.2);
            form_3 = λ x s n i q. let t = twin ss ts e s i in cover_then _ _ _ (c.form_3 x (with_label s t.0) n t.1 q) (both_covers t.0 s.label _ t.2);
            form_4 = λ x y s n n' i q. let t = twin ss ts e s i in cover_then _ _ _ (c.form_4 x y (with_label s t.0) n n' t.1 q) (both_covers t.0 s.label _ t.2);
            form_5 = λ s i q. let t = twin ss ts e s i in cover_then _ _ _ (c.form_5 (with_label s t.0) t.1 q) (alike_covers t.0 s.label t.2);
            form_6 = λ s i q. let t = twin ss ts e s i in cover_then _ _ _ (c.form_6 (with_label s t.0) t.1 q) (alike_covers t.0 s.label t.2);
          }

    -- least labels of the one list are least labels of the other
    pub least_alike : (z : Sizes) (ss ts : List (Sentence L)) → NumberedAlike ts ss → (label : Fact → L) → Least k z ts label → Least k z ss label
    least_alike z ss ts e label m =
        record {
          satisfies = satisfies_alike z ss ts e label m.satisfies;
          least = λ other c f r. m.least other (satisfies_alike z ts ss (sym e) other c) f r;
        }
