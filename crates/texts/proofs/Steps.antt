-- Reading line by line: the book that holds the lines so far. Assumes nothing.
use Rattle.std.proofs.Common.{◌≡◌, ℕ, ◌+◌, true, false, List, [], ◌∷◌, ◌++◌, length, sym, refl, ap, ◌∙◌, subst, arith}
use Rattle.std.specs.List.{flat_map}
use Rattle.std.proofs.lemmas.List.{append_assoc, append-nil, length-append, length_push, flat_map_more}
use Rattle.std.proofs.lemmas.Bool.{and_from}
use Rattle.labels.specs.Kind.{Kind}
use Rattle.terms.specs.declared.Sizes.{Sizes}
use Rattle.terms.specs.declared.Sentence.{Sentence}
use Rattle.terms.specs.declared.Refusal.{Refusal}
use Rattle.terms.specs.Places.{outside_limits}
use Rattle.terms.specs.Sentences.{well_formed, holdable}
use Rattle.terms.proofs.Holding.{holdable_parts, holdable_from, each_append}
use Rattle.books.specs.Contents.{Contents, unsettled}
use Rattle.texts.specs.Lines.{sizes_header, sizes_line, sentences_header, sentence_line, numbered, text_of}
use Rattle.texts.specs.Texts.{Opens, GoodSoFar, NextLine, BadLine, no_sentence, malformed, no_label, no_cell, ReadBook}
use Rattle.texts.specs.Parts.{SoFar, Unfit, ill_formed, unlabelled, full, BadSentence, unlike, unfit, NextSentence}

pub regroup : {X : Type 0} (a b c d e : List X) → a ++ (b ++ (c ++ (d ++ e))) ≡ (a ++ (b ++ (c ++ d))) ++ e
regroup a b c d e = simp append_assoc

module _ {L : Type 0} (k : Kind L) where
  abbrev pub line_of : Sentence L → List ℕ
  line_of s = sentence_line (numbered k s)

  text_push : (z : Sizes) (ss : List (Sentence L)) (s : Sentence L) → text_of k z (ss ++ (s ∷ [])) ≡ text_of k z ss ++ line_of s
  text_push z ss s =
      ap (λ w. sizes_header ++ (sizes_line z ++ (sentences_header ++ w))) (sym (flat_map_more line_of [] ss s))
      ∙ regroup sizes_header (sizes_line z) sentences_header (flat_map line_of ss) (line_of s)

  text_more : (z : Sizes) (ss : List (Sentence L)) (s : Sentence L) (text rest more : List ℕ) → text ≡ text_of k z ss ++ rest → rest ≡ line_of s ++ more → text ≡ text_of k z (ss ++ (s ∷ [])) ++ more
  text_more z ss s text rest more h e =
      h ∙ ap (λ w. text_of k z ss ++ w) e ∙ sym (append_assoc (text_of k z ss) (line_of s) more)
      ∙ ap (λ w. w ++ more) (sym (text_push z ss s))

  -- the sizes are read, and no sentence yet
  pub so_far_sized : (cells : ℕ) (text rest : List ℕ) (old : Contents L) (z : Sizes) → old.cells ≡ cells → outside_limits z ≡ false → text ≡ text_of k z [] ++ rest → SoFar k cells text rest (unsettled old z [])
  so_far_sized cells text rest old z over limits h = record {
    good = record { can_be = holdable_from {L = L} cells z [] (record { limits = limits; formed = refl; few = omega arith }); so_far = h };
    fresh = refl;
    over = over;
  }

  -- a sentence more is entered
  pub one_more : (rest more : List ℕ) (old new : Contents L) → NextSentence k old rest more new → length new.sentences ≡ length old.sentences + 1
  one_more rest more old new n = ap (λ b. length b.sentences) n.entered.book ∙ length_push old.sentences n.entered.sentence

  module _ (cells : ℕ) (text rest : List ℕ) (old : Contents L) (w : SoFar k cells text rest old) where
    pub so_far_more : (more : List ℕ) (new : Contents L) → NextSentence k old rest more new → SoFar k cells text more new
    so_far_more more new n =
        let p = holdable_parts cells old.sizes old.sentences w.good.can_be in
        let s = n.entered.sentence in
        let ss = old.sentences in
        subst (λ b. SoFar k cells text more b) (sym n.entered.book) (record {
          good = record {
            can_be = holdable_from cells old.sizes (ss ++ (s ∷ [])) (record {
              limits = p.limits;
              formed = each_append (well_formed old.sizes) ss (s ∷ []) p.formed (and_from (well_formed old.sizes s) true n.entered.formed refl);
              few = omega (arith, n.entered.room, w.over, length-append ss (s ∷ []));
            });
            so_far = text_more old.sizes ss s text rest more w.good.so_far
                (n.opened ∙ ap (λ x. sentence_line x ++ more) (sym n.entered.same));
          };
          fresh = refl;
          over = w.over;
        })

    so_far_all : rest ≡ [] → text ≡ text_of k old.sizes old.sentences
    so_far_all e = w.good.so_far ∙ ap (λ r. text_of k old.sizes old.sentences ++ r) e ∙ append-nil (text_of k old.sizes old.sentences)

    good_next : (s : Sentence ℕ) (more : List ℕ) → Opens rest (sentence_line s) more → GoodSoFar k cells text old.sizes old.sentences (sentence_line s ++ more)
    good_next s more e = subst (λ r. GoodSoFar k cells text old.sizes old.sentences r) e w.good

    -- the line of a sentence that cannot be entered is the first bad one
    unfit_next :
        (s : Sentence ℕ) (e : Refusal) → NextLine k cells text old.sizes old.sentences s
        → Unfit k old.sizes old.cells (length old.sentences) s e → BadLine k cells text e (4 + length old.sentences)
    unfit_next s e n (ill_formed f) = malformed old.sizes old.sentences s n f
    unfit_next s e n (unlabelled f none) = no_label old.sizes old.sentences s n f none
    unfit_next s e n (full f l its le) =
        let p = holdable_parts cells old.sizes old.sentences w.good.can_be in
        no_cell old.sizes old.sentences s n f l its (omega (arith, p.few, w.over))

    pub so_far_bad :
        (e : Refusal) → (rest ≡ [] → ⊥) → BadSentence k old.sizes old.cells (length old.sentences) rest e
        → BadLine k cells text e (4 + length old.sentences)
    so_far_bad e some (unlike none) = no_sentence old.sizes old.sentences rest w.good some none
    so_far_bad e some (unfit s more d fits opened u) =
        unfit_next s d (record { rest = more; good = good_next s more opened; fits = fits }) u

    -- a book that holds the lines so far, where nothing is left
    pub so_far_read : (start : Contents L) → start.cells ≡ cells → rest ≡ [] → ReadBook k start.cells text start old
    so_far_read start e none = record {
      can_be = subst (λ n. holdable n old.sizes old.sentences ≡ true) (sym e) w.good.can_be;
      its_text = so_far_all none;
      book = λ i. record { sizes = old.sizes; sentences = old.sentences; settled = w.fresh i; cells = (w.over ∙ sym e) i };
    }
