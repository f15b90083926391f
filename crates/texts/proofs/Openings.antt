-- The first three lines of a text: what sizing by them does. Assumes nothing.
use Rattle.std.proofs.Common.{◌≡◌, ℕ, true, List, [], ◌++◌, length, Some, None, Ok, Err, Option, MatchOption, sym, refl, ap, ◌∙◌, subst, arith}
use Rattle.std.specs.Borrow.{Bor}
use Rattle.std.specs.Option.{ok_or}
use Rattle.std.proofs.lemmas.List.{length-append, append_assoc}
use Rattle.labels.specs.Kind.{Kind}
use Rattle.terms.specs.declared.Sizes.{Sizes}
use Rattle.terms.specs.declared.Refusal.{Refusal}
use Rattle.terms.specs.declared.Refusal.TheVariants.{MalformedLine}
use Rattle.books.specs.Contents.{Contents, Sized}
use Rattle.texts.specs.Lines.{sizes_header, sizes_line, sizes_fit, sentences_header}
use Rattle.texts.specs.Texts.{BadLine, sizes_outside, no_sentences_header}
use Rattle.texts.specs.Parts.{Stopped, SizesRead, ReadsSizes}
use Rattle.texts.proofs.Calls.{size_refused, size_accepted}
use Rattle.texts.proofs.Steps.{so_far_sized, regroup}

module _ {L : Type 0} (k : Kind L) (old new : Contents L) (text first more : List ℕ) (z : Sizes) (header : text ≡ sizes_header ++ first) (line : (sizes_fit z ≡ true) × (first ≡ sizes_line z ++ more)) where
  two_lines : text ≡ (sizes_header ++ sizes_line z) ++ more
  two_lines = header ∙ ap (λ w. sizes_header ++ w) line.1 ∙ sym (append_assoc sizes_header (sizes_line z) more)

  -- the sizes are refused
  pub outside : (e : Refusal) → Sized old z (Err e) new → Stopped k old.cells text (record { refusal = e; line = 2 }) new
  outside e h =
      let refused = size_refused old new z e h in
      record {
        first_bad = subst (λ (d : Refusal). BadLine k old.cells text d 2) (sym refused.1) (sizes_outside z more two_lines line.0 refused.0);
        over = ap (λ b. b.cells) refused.2;
      }

  -- the sizes are accepted, and the third line is there or not
  pub columns :
      Sized old z (Ok tt) new → (r : Option (Bor (List ℕ)))
      → MatchOption r ((rest : List ℕ) → more ≡ sentences_header ++ rest → ⊥) (λ x. more ≡ sentences_header ++ x.now)
      → ReadsSizes k old text (ok_or r (record { refusal = MalformedLine; line = 3 })) new
  columns h None third =
      let sized = size_accepted old new z tt h in
      record { first_bad = no_sentences_header z more two_lines sized.0 third; over = ap (λ b. b.cells) sized.1 }
  columns h (Some rest) third =
      let sized = size_accepted old new z tt h in
      subst (λ b. SizesRead k old.cells text rest.now b) (sym sized.1) (record {
        so_far = so_far_sized k old.cells text rest.now old z refl sized.0
            (header ∙ ap (λ w. sizes_header ++ w) (line.1 ∙ ap (λ w. sizes_line z ++ w) third) ∙ regroup sizes_header (sizes_line z) sentences_header [] rest.now);
        none_yet = refl;
        shorter = omega (arith, ap length header, ap length line.1, ap length third, length-append sizes_header first, length-append (sizes_line z) more, length-append sentences_header rest.now);
      })
