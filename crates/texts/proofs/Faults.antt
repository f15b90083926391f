-- A text with a bad line is that of no book, and it has one first bad line. Assumes nothing.
use Rattle.std.proofs.Common.{◌≡◌, ℕ, ◌+◌, ◌<◌, ◌≤◌, true, false, ◌⊎◌, List, [], ◌∷◌, ◌++◌, length, is_err, Ok, Err, Result, sym, refl, ap, ◌∙◌, subst, inl, inr, ⊎_elim, arith}
use Rattle.std.specs.List.{flat_map}
use Rattle.std.proofs.lemmas.List.{append_assoc, append-nil, append_cancel_left, length-append, nil_from_length}
use Rattle.std.proofs.lemmas.Bool.{and_parts, both_ways}
use Rattle.labels.specs.Kind.{Kind, Lawful}
use Rattle.terms.specs.declared.Sizes.{Sizes}
use Rattle.terms.specs.declared.Sentence.{Sentence}
use Rattle.terms.specs.declared.Refusal.{Refusal}
use Rattle.terms.specs.declared.Refusal.TheVariants.{SizesOutsideLimits, MalformedLine}
use Rattle.terms.specs.Lists.{each}
use Rattle.terms.specs.Places.{outside_limits}
use Rattle.terms.specs.Sentences.{well_formed, holdable}
use Rattle.terms.proofs.Holding.{Holdable, holdable_parts}
use Rattle.books.specs.Contents.{Contents, unsettled, one_concept, blank_book}
use Rattle.texts.specs.declared.Misread.{Misread}
use Rattle.texts.specs.Lines.{sizes_header, sizes_line, sentences_header, sentence_line, numbered, text_of, sizes_fit}
use Rattle.texts.specs.Texts.{Opens, GoodSoFar, NextLine, BadLine, no_sizes_header, no_sizes, sizes_outside, no_sentences_header, no_sentence, malformed, no_label, no_cell, Reads}
use Rattle.texts.specs.Once.{OneBadLine}
use Rattle.texts.specs.Parts.{Unfit, ill_formed, unlabelled, full, BadSentence, unlike, unfit, Loads}
use Rattle.texts.proofs.Rows.{same_sizes, same_sentence, line_some}
use Rattle.texts.proofs.Steps.{regroup, line_of}
use Rattle.texts.proofs.Fits.{limits_fit, formed_fit}

-- the second line is no line of sizes, or it is that of sizes outside their limits
data BadSizes (rest : List ℕ) (e : Refusal) : Type 0 where
  unlike_sizes : e ≡ MalformedLine → ((z : Sizes) (more : List ℕ) → sizes_fit z ≡ true → Opens rest (sizes_line z) more → ⊥) → BadSizes rest e
  outside : e ≡ SizesOutsideLimits → (z : Sizes) (more : List ℕ) → Opens rest (sizes_line z) more → sizes_fit z ≡ true → outside_limits z ≡ true → BadSizes rest e

sizes_once : (rest : List ℕ) (e f : Refusal) → BadSizes rest e → BadSizes rest f → e ≡ f
sizes_once rest e f (unlike_sizes p _) (unlike_sizes q _) = p ∙ sym q
sizes_once rest e f (unlike_sizes p none) (outside q z more h fits _) = absurd (none z more fits h)
sizes_once rest e f (outside p z more h fits _) (unlike_sizes q none) = absurd (none z more fits h)
sizes_once rest e f (outside p _ _ _ _ _) (outside q _ _ _ _ _) = p ∙ sym q

-- sizes within the limits do not stand where the second line is bad
sizes_good : (rest : List ℕ) (e : Refusal) → BadSizes rest e → (z : Sizes) (more : List ℕ) → outside_limits z ≡ false → Opens rest (sizes_line z) more → ⊥
sizes_good rest e (unlike_sizes _ none) z more limits h = none z more (limits_fit z limits) h
sizes_good rest e (outside _ y less g fits out) z more limits h =
    let same = (same_sizes y z less more fits (limits_fit z limits) (sym g ∙ h)).0 in
    both_ways (outside_limits y) (ap outside_limits same ∙ limits) out

module _ {L : Type 0} (k : Kind L) (laws : Lawful k) where
  unfit_once : (z : Sizes) (cells count : ℕ) (s : Sentence ℕ) (e f : Refusal) → Unfit k z cells count s e → Unfit k z cells count s f → e ≡ f
  unfit_once z cells count s e f (ill_formed a) (ill_formed b) = refl
  unfit_once z cells count s e f (ill_formed a) (unlabelled b _) = absurd (both_ways (well_formed z s) a b)
  unfit_once z cells count s e f (ill_formed a) (full b _ _ _) = absurd (both_ways (well_formed z s) a b)
  unfit_once z cells count s e f (unlabelled a _) (ill_formed b) = absurd (both_ways (well_formed z s) b a)
  unfit_once z cells count s e f (unlabelled a _) (unlabelled b _) = refl
  unfit_once z cells count s e f (unlabelled a none) (full b l its _) = absurd (none l its)
  unfit_once z cells count s e f (full a _ _ _) (ill_formed b) = absurd (both_ways (well_formed z s) b a)
  unfit_once z cells count s e f (full a l its _) (unlabelled b none) = absurd (none l its)
  unfit_once z cells count s e f (full a _ _ _) (full b _ _ _) = refl

  sentence_once : (z : Sizes) (cells count : ℕ) (rest : List ℕ) (e f : Refusal) → BadSentence k z cells count rest e → BadSentence k z cells count rest f → e ≡ f
  sentence_once z cells count rest e f (unlike none) (unlike _) = refl
  sentence_once z cells count rest e f (unlike none) (unfit s more _ fits h _) = absurd (none s more fits h)
  sentence_once z cells count rest e f (unfit s more _ fits h _) (unlike none) = absurd (none s more fits h)
  sentence_once z cells count rest e f (unfit s more d fits h a) (unfit t less c fit g b) =
      let same = (same_sentence s t more less fits fit (sym h ∙ g)).0 in
      unfit_once z cells count t d c (subst (λ x. Unfit k z cells count x d) same a) b

  -- a sentence that can be entered does not
  unfit_good : (z : Sizes) (cells count : ℕ) (s : Sentence L) (e : Refusal) → well_formed z s ≡ true → count < cells → Unfit k z cells count (numbered k s) e → ⊥
  unfit_good z cells count s e formed room (ill_formed a) = both_ways (well_formed z s) a formed
  unfit_good z cells count s e formed room (unlabelled a none) = none s.label refl
  unfit_good z cells count s e formed room (full a l its le) = omega arith

  sentence_good :
      (z : Sizes) (cells count : ℕ) (rest : List ℕ) (e : Refusal) → BadSentence k z cells count rest e → outside_limits z ≡ false
      → (s : Sentence L) (more : List ℕ) → well_formed z s ≡ true → count < cells → Opens rest (line_of k s) more → ⊥
  sentence_good z cells count rest e (unlike none) limits s more formed room h =
      none (numbered k s) more (formed_fit s z limits k laws formed) h
  sentence_good z cells count rest e (unfit t less d fits g a) limits s more formed room h =
      let same = (same_sentence t (numbered k s) less more fits (formed_fit s z limits k laws formed) (sym g ∙ h)).0 in
      unfit_good z cells count s d formed room (subst (λ x. Unfit k z cells count x d) same a)

  -- the first bad line, by where it stands
  data Fault (cells : ℕ) (text : List ℕ) (e : Refusal) (line : ℕ) : Type 0 where
    at_header : line ≡ 1 → e ≡ MalformedLine → ((rest : List ℕ) → Opens text sizes_header rest → ⊥) → Fault cells text e line
    at_sizes : (rest : List ℕ) → line ≡ 2 → Opens text sizes_header rest → BadSizes rest e → Fault cells text e line
    at_columns :
        (z : Sizes) (rest : List ℕ) → line ≡ 3 → e ≡ MalformedLine → outside_limits z ≡ false → Opens text sizes_header (sizes_line z ++ rest)
        → ((more : List ℕ) → Opens rest sentences_header more → ⊥) → Fault cells text e line
    at_sentence :
        (z : Sizes) (ss : List (Sentence L)) (rest : List ℕ) → line ≡ 4 + length ss → GoodSoFar k cells text z ss rest → (rest ≡ [] → ⊥)
        → BadSentence k z cells (length ss) rest e → Fault cells text e line

  line_there : (s : Sentence ℕ) (rest : List ℕ) → sentence_line s ++ rest ≡ [] → ⊥
  line_there s rest h = omega (arith, ap length h, length-append (sentence_line s) rest, line_some s)

  next_fault :
      (cells : ℕ) (text : List ℕ) (z : Sizes) (ss : List (Sentence L)) (s : Sentence ℕ) (e : Refusal) → NextLine k cells text z ss s
      → Unfit k z cells (length ss) s e → Fault cells text e (4 + length ss)
  next_fault cells text z ss s e n u =
      at_sentence z ss (sentence_line s ++ n.rest) refl n.good (line_there s n.rest) (unfit s n.rest e n.fits refl u)

  fault : (cells : ℕ) (text : List ℕ) (e : Refusal) (line : ℕ) → BadLine k cells text e line → Fault cells text e line
  fault cells text e line (no_sizes_header none) = at_header refl refl none
  fault cells text e line (no_sizes rest h none) = at_sizes rest refl h (unlike_sizes refl none)
  fault cells text e line (sizes_outside z rest h fits out) =
      at_sizes (sizes_line z ++ rest) refl (h ∙ append_assoc sizes_header (sizes_line z) rest) (outside refl z rest refl fits out)
  fault cells text e line (no_sentences_header z rest h limits none) =
      at_columns z rest refl refl limits (h ∙ append_assoc sizes_header (sizes_line z) rest) none
  fault cells text e line (no_sentence z ss rest good some none) = at_sentence z ss rest refl good some (unlike none)
  fault cells text e line (malformed z ss s n a) = next_fault cells text z ss s _ n (ill_formed a)
  fault cells text e line (no_label z ss s n a none) = next_fault cells text z ss s _ n (unlabelled a none)
  fault cells text e line (no_cell z ss s n a l its long) = next_fault cells text z ss s _ n (full a l its (omega arith))

  -- of two rows of lines that begin one text, one goes on after as many sentences as the other has
  record Onward (ss ts : List (Sentence L)) (r u : List ℕ) : Type 0 where
    front : List (Sentence L)
    more : List (Sentence L)
    all : ts ≡ front ++ more
    long : length front ≡ length ss
    left : r ≡ flat_map (line_of k) more ++ u

  onward_more : (s t : Sentence L) (ss ts : List (Sentence L)) (r u : List ℕ) → Onward ss ts r u → Onward (s ∷ ss) (t ∷ ts) r u
  onward_more s t ss ts r u o = record {
    front = t ∷ o.front;
    more = o.more;
    all = ap (λ xs. t ∷ xs) o.all;
    long = omega (arith, o.long);
    left = o.left;
  }

  module _ (z : Sizes) (limits : outside_limits z ≡ false) where
    either_way :
        (ss ts : List (Sentence L)) (r u : List ℕ) → each (well_formed z) ss ≡ true → each (well_formed z) ts ≡ true
        → flat_map (line_of k) ss ++ r ≡ flat_map (line_of k) ts ++ u → Onward ss ts r u ⊎ Onward ts ss u r
    either_way [] ts r u p q h = inl (record { front = []; more = ts; all = refl; long = refl; left = h })
    either_way (s ∷ ss) [] r u p q h = inr (record { front = []; more = s ∷ ss; all = refl; long = refl; left = sym h })
    either_way (s ∷ ss) (t ∷ ts) r u p q h =
        let J = flat_map (line_of k) in
        let a = and_parts (well_formed z s) _ p in
        let b = and_parts (well_formed z t) _ q in
        let same = same_sentence (numbered k s) (numbered k t) (J ss ++ r) (J ts ++ u) (formed_fit s z limits k laws a.0) (formed_fit t z limits k laws b.0)
        (sym (append_assoc (line_of k s) (J ss) r) ∙ h ∙ append_assoc (line_of k t) (J ts) u) in
        ⊎_elim (λ (o : Onward ss ts r u). inl (onward_more s t ss ts r u o)) (λ (o : Onward ts ss u r). inr (onward_more t s ts ss u r o))
        (either_way ss ts r u a.1 b.1 same.1)

    later_formed : (front more : List (Sentence L)) → each (well_formed z) (front ++ more) ≡ true → each (well_formed z) more ≡ true
    later_formed [] more h = h
    later_formed (s ∷ front) more h = later_formed front more (and_parts (well_formed z s) _ h).1

    module _ (cells : ℕ) (ss ts : List (Sentence L)) (r u : List ℕ) (e : Refusal) (bad : BadSentence k z cells (length ss) r e) (formed : each (well_formed z) ts ≡ true) (few : length ts ≤ cells) where
      -- a book that goes on at a bad line is none
      stops : (front more : List (Sentence L)) → ts ≡ front ++ more → length front ≡ length ss → r ≡ flat_map (line_of k) more ++ u → (r ≡ u) × (length ss ≡ length ts)
      stops front [] all long left = (left, omega (arith, long, ap length (all ∙ append-nil front)))
      stops front (s ∷ more) all long left =
          let f = and_parts (well_formed z s) _ (later_formed front (s ∷ more) (subst (λ xs. each (well_formed z) xs ≡ true) all formed)) in
          absurd (sentence_good z cells (length ss) r e bad limits s (flat_map (line_of k) more ++ u) f.0
          (omega (arith, long, ap length all, length-append front (s ∷ more)))
          (left ∙ append_assoc (line_of k s) (flat_map (line_of k) more) u))

  -- the lines up to the sentences, taken apart
  apart : (text : List ℕ) (z : Sizes) (ss : List (Sentence L)) (rest : List ℕ) → Opens text (text_of k z ss) rest → Opens text sizes_header (sizes_line z ++ (sentences_header ++ (flat_map (line_of k) ss ++ rest)))
  apart text z ss rest h = h ∙ sym (regroup sizes_header (sizes_line z) sentences_header (flat_map (line_of k) ss) rest)

  after_sizes :
      (text t u : List ℕ) (y z : Sizes) → outside_limits y ≡ false → outside_limits z ≡ false → Opens text sizes_header (sizes_line y ++ t)
      → Opens text sizes_header (sizes_line z ++ u) → (y ≡ z) × (t ≡ u)
  after_sizes text t u y z a b g h =
      same_sizes y z t u (limits_fit y a) (limits_fit z b) (append_cancel_left sizes_header (sizes_line y ++ t) (sizes_line z ++ u) (sym g ∙ h))

  -- sizes within the limits, where the second line is bad
  not_sized : (text rest more : List ℕ) (e : Refusal) (z : Sizes) → Opens text sizes_header rest → BadSizes rest e → outside_limits z ≡ false → Opens text sizes_header (sizes_line z ++ more) → ⊥
  not_sized text rest more e z g bad limits h =
      sizes_good rest e bad z more limits (append_cancel_left sizes_header rest (sizes_line z ++ more) (sym g ∙ h))

  -- lines that stand before a bad one, and those of a book whose lines go on to another place of the text
  module _
      (cells : ℕ) (text : List ℕ) (y z : Sizes) (ss ts : List (Sentence L)) (r u : List ℕ)
      (a : GoodSoFar k cells text y ss r) (b : GoodSoFar k cells text z ts u) where
    left_part : Holdable cells y ss
    left_part = holdable_parts cells y ss a.can_be

    right_part : Holdable cells z ts
    right_part = holdable_parts cells z ts b.can_be

    meet : (y ≡ z) × (sentences_header ++ (flat_map (line_of k) ss ++ r) ≡ sentences_header ++ (flat_map (line_of k) ts ++ u))
    meet =
        after_sizes text (sentences_header ++ (flat_map (line_of k) ss ++ r)) (sentences_header ++ (flat_map (line_of k) ts ++ u)) y z
        left_part.limits right_part.limits (apart text y ss r a.so_far) (apart text z ts u b.so_far)

    same_or_onward : (y ≡ z) × (Onward ss ts r u ⊎ Onward ts ss u r)
    same_or_onward = (
      meet.0,
      either_way z right_part.limits ss ts r u (subst (λ x. each (well_formed x) ss ≡ true) meet.0 left_part.formed) right_part.formed
          (append_cancel_left sentences_header (flat_map (line_of k) ss ++ r) (flat_map (line_of k) ts ++ u) meet.1),
    )

    -- where the first goes no further than a bad line, neither does the second
    stops_there :
        (e : Refusal) → BadSentence k y cells (length ss) r e → Onward ss ts r u → (r ≡ u) × (length ss ≡ length ts)
    stops_there e bad o =
        stops z right_part.limits cells ss ts r u e (subst (λ x. BadSentence k x cells (length ss) r e) meet.0 bad)
        right_part.formed right_part.few o.front o.more o.all o.long o.left

  -- a third line that is bad is not that of good lines
  past_columns :
      (cells : ℕ) (text : List ℕ) (y : Sizes) (before : List ℕ) → outside_limits y ≡ false → Opens text sizes_header (sizes_line y ++ before)
      → ((more : List ℕ) → Opens before sentences_header more → ⊥) → (z : Sizes) (ss : List (Sentence L)) (rest : List ℕ) → GoodSoFar k cells text z ss rest → ⊥
  past_columns cells text y before limits h none z ss rest good =
      none (flat_map (line_of k) ss ++ rest)
      (after_sizes text before (sentences_header ++ (flat_map (line_of k) ss ++ rest)) y z limits (holdable_parts cells z ss good.can_be).limits h (apart text z ss rest good.so_far)).1

  -- nothing is left after a book's own text
  whole_text : (cells : ℕ) (text : List ℕ) (z : Sizes) (ss : List (Sentence L)) → holdable cells z ss ≡ true → text ≡ text_of k z ss → GoodSoFar k cells text z ss []
  whole_text cells text z ss can h = record { can_be = can; so_far = h ∙ sym (append-nil (text_of k z ss)) }

  fault_none : (cells : ℕ) (text : List ℕ) (e : Refusal) (line : ℕ) → Fault cells text e line → (z : Sizes) (ss : List (Sentence L)) → holdable cells z ss ≡ true → text ≡ text_of k z ss → ⊥
  fault_none cells text e line (at_header _ _ none) z ss can h = none (sizes_line z ++ (sentences_header ++ flat_map (line_of k) ss)) h
  fault_none cells text e line (at_sizes rest _ g bad) z ss can h =
      not_sized text rest (sentences_header ++ flat_map (line_of k) ss) e z g bad (holdable_parts cells z ss can).limits h
  fault_none cells text e line (at_columns y rest _ _ limits g none) z ss can h =
      none (flat_map (line_of k) ss) (after_sizes text rest (sentences_header ++ flat_map (line_of k) ss) y z limits (holdable_parts cells z ss can).limits g h).1
  fault_none cells text e line (at_sentence y ts rest _ good some bad) z ss can h =
      let w = whole_text cells text z ss can h in
      ⊎_elim
      (λ (o : Onward ts ss rest []). some (stops_there cells text y z ts ss rest [] good w e bad o).0)
      (λ (o : Onward ss ts [] rest). some (nil_from_length rest (omega (arith, ap length o.left, length-append (flat_map (line_of k) o.more) rest))))
      (same_or_onward cells text y z ts ss rest [] good w).1

  -- a text with a bad line is that of no book that the memory can hold
  pub bad_line_none : (cells : ℕ) (text : List ℕ) (e : Refusal) (line : ℕ) → BadLine k cells text e line → (z : Sizes) (ss : List (Sentence L)) → holdable cells z ss ≡ true → text ≡ text_of k z ss → ⊥
  bad_line_none cells text e line bad = fault_none cells text e line (fault cells text e line bad)

  -- a text that was refused, and the book made blank
  pub refused_blank :
      (old mid new : Contents L) (text : List ℕ) (r : Result (Unit {0}) Misread) → is_err r ≡ true → Loads k old text r mid
      → new ≡ unsettled mid one_concept [] → Reads k old text r new
  refused_blank old mid new text (Ok u) is h e = absurd (both_ways false refl is)
  refused_blank old mid new text (Err bad) is h e = record {
    no_book = bad_line_none old.cells text bad.refusal bad.line h.first_bad;
    first_bad = h.first_bad;
    book = e ∙ ap blank_book h.over;
  }

  -- two bad lines after the sizes are one
  sentences_once :
      (cells : ℕ) (text : List ℕ) (e f : Refusal) (y z : Sizes) (ss ts : List (Sentence L)) (r u : List ℕ) → GoodSoFar k cells text y ss r
      → GoodSoFar k cells text z ts u → BadSentence k y cells (length ss) r e → BadSentence k z cells (length ts) u f
      → y ≡ z → Onward ss ts r u → (e ≡ f) × (length ss ≡ length ts)
  sentences_once cells text e f y z ss ts r u a b bad worse same o =
      let there = stops_there cells text y z ss ts r u a b e bad o in (
        sentence_once z cells (length ts) u e f
            (subst (λ x. BadSentence k x cells (length ts) u e) same
            (subst (λ n. BadSentence k y cells n u e) there.1 (subst (λ x. BadSentence k y cells (length ss) x e) there.0 bad)))
            worse,
        there.1,
      )

  once : (cells : ℕ) (text : List ℕ) (e f : Refusal) (i j : ℕ) → Fault cells text e i → Fault cells text f j → (e ≡ f) × (i ≡ j)
  once cells text e f i j (at_header a p _) (at_header b q _) = (p ∙ sym q, a ∙ sym b)
  once cells text e f i j (at_header _ _ none) (at_sizes rest _ h _) = absurd (none rest h)
  once cells text e f i j (at_header _ _ none) (at_columns z rest _ _ _ h _) = absurd (none (sizes_line z ++ rest) h)
  once cells text e f i j (at_header _ _ none) (at_sentence z ss rest _ good _ _) =
      absurd (none (sizes_line z ++ (sentences_header ++ (flat_map (line_of k) ss ++ rest))) (apart text z ss rest good.so_far))
  once cells text e f i j (at_sizes rest _ h _) (at_header _ _ none) = absurd (none rest h)
  once cells text e f i j (at_sizes r a g bad) (at_sizes u b h worse) =
      let same = append_cancel_left sizes_header r u (sym g ∙ h) in
      (sizes_once u e f (subst (λ x. BadSizes x e) same bad) worse, a ∙ sym b)
  once cells text e f i j (at_sizes r _ g bad) (at_columns z rest _ _ limits h _) = absurd (not_sized text r rest e z g bad limits h)
  once cells text e f i j (at_sizes r _ g bad) (at_sentence z ss rest _ good _ _) =
      absurd (not_sized text r (sentences_header ++ (flat_map (line_of k) ss ++ rest)) e z g bad (holdable_parts cells z ss good.can_be).limits (apart text z ss rest good.so_far))
  once cells text e f i j (at_columns z rest _ _ _ h _) (at_header _ _ none) = absurd (none (sizes_line z ++ rest) h)
  once cells text e f i j (at_columns z rest _ _ limits h _) (at_sizes r _ g bad) = absurd (not_sized text r rest f z g bad limits h)
  once cells text e f i j (at_columns _ _ a p _ _ _) (at_columns _ _ b q _ _ _) = (p ∙ sym q, a ∙ sym b)
  once cells text e f i j (at_columns y before _ _ limits h none) (at_sentence z ss rest _ good _ _) =
      absurd (past_columns cells text y before limits h none z ss rest good)
  once cells text e f i j (at_sentence z ss rest _ good _ _) (at_header _ _ none) =
      absurd (none (sizes_line z ++ (sentences_header ++ (flat_map (line_of k) ss ++ rest))) (apart text z ss rest good.so_far))
  once cells text e f i j (at_sentence z ss rest _ good _ _) (at_sizes r _ g bad) =
      absurd (not_sized text r (sentences_header ++ (flat_map (line_of k) ss ++ rest)) f z g bad (holdable_parts cells z ss good.can_be).limits (apart text z ss rest good.so_far))
  once cells text e f i j (at_sentence z ss rest _ good _ _) (at_columns y before _ _ limits h none) =
      absurd (past_columns cells text y before limits h none z ss rest good)
  once cells text e f i j (at_sentence y ss r a g _ bad) (at_sentence z ts u b h _ worse) =
      let way = same_or_onward cells text y z ss ts r u g h in
      let both : (e ≡ f) × (length ss ≡ length ts) = ⊎_elim
      (λ (o : Onward ss ts r u). sentences_once cells text e f y z ss ts r u g h bad worse way.0 o)
      (λ (o : Onward ts ss u r). let back = sentences_once cells text f e z y ts ss u r h g worse bad (sym way.0) o in (sym back.0, sym back.1))
      way.1 in
      (both.0, a ∙ ap (λ n. 4 + n) both.1 ∙ sym b)

  pub one_bad_line : OneBadLine k
  one_bad_line cells text e f i j a b = once cells text e f i j (fault cells text e i a) (fault cells text f j b)
