-- A text is that of one book at most, labels up to their number: so what is written is read back. Assumes nothing.
use Rattle.std.proofs.Common.{◌≡◌, ℕ, true, false, List, [], ◌∷◌, ◌++◌, map, length, take, drop, Ok, Err, sym, refl, ap, ◌∙◌, ap₂, arith, length-append}
use Rattle.std.specs.List.{flat_map}
use Rattle.std.proofs.lemmas.List.{append_cancel_left, take_all, take-append-le}
use Rattle.std.proofs.lemmas.Bool.{and_parts}
use Rattle.labels.specs.Kind.{Kind, Lawful}
use Rattle.terms.specs.declared.Sizes.{Sizes}
use Rattle.terms.specs.declared.Sentence.{Sentence}
use Rattle.terms.specs.Lists.{each}
use Rattle.terms.specs.Places.{outside_limits}
use Rattle.terms.specs.Sentences.{well_formed, holdable}
use Rattle.terms.proofs.Holding.{holdable_parts}
use Rattle.books.specs.Contents.{Contents}
use Rattle.texts.specs.Lines.{numbered, sizes_header, sizes_line, sentences_header, sentence_line, text_of}
use Rattle.texts.specs.Texts.{Writes}
use Rattle.texts.specs.RoundTrip.{ReadsBack}
use Rattle.texts.proofs.Rows.{same_sizes, same_sentence, line_some}
use Rattle.texts.proofs.Fits.{limits_fit, formed_fit}

module _ {L : Type 0} (k : Kind L) (laws : Lawful k) where
  abbrev lines : List (Sentence L) → List ℕ
  lines ss = flat_map (λ s. sentence_line (numbered k s)) ss

  same_lines :
      (y z : Sizes) → outside_limits y ≡ false → outside_limits z ≡ false → (ss ts : List (Sentence L)) → each (well_formed y) ss ≡ true → each (well_formed z) ts ≡ true
      → lines ss ≡ lines ts → map (numbered k) ss ≡ map (numbered k) ts
  same_lines y z ly lz [] [] g h e = refl
  same_lines y z ly lz [] (t ∷ ts) g h e =
      absurd (let some = line_some (numbered k t) in let long = length-append (sentence_line (numbered k t)) (lines ts) in omega (arith, ap length e, some, long))
  same_lines y z ly lz (s ∷ ss) [] g h e =
      absurd (let some = line_some (numbered k s) in let long = length-append (sentence_line (numbered k s)) (lines ss) in omega (arith, ap length e, some, long))
  same_lines y z ly lz (s ∷ ss) (t ∷ ts) g h e =
      let p = and_parts (well_formed y s) (each (well_formed y) ss) g in
      let q = and_parts (well_formed z t) (each (well_formed z) ts) h in
      let one = same_sentence (numbered k s) (numbered k t) (lines ss) (lines ts) (formed_fit s y ly k laws p.0) (formed_fit t z lz k laws q.0) e in
      ap₂ (λ a l. a ∷ l) one.0 (same_lines y z ly lz ss ts p.1 q.1 one.1)

  pub one_book :
      (cells : ℕ) (y z : Sizes) (ss ts : List (Sentence L)) → holdable cells y ss ≡ true → holdable cells z ts ≡ true → text_of k y ss ≡ text_of k z ts
      → (y ≡ z) × (map (numbered k) ss ≡ map (numbered k) ts)
  one_book cells y z ss ts g h e =
      let p = holdable_parts cells y ss g in
      let q = holdable_parts cells z ts h in
      let sized = append_cancel_left sizes_header (sizes_line y ++ (sentences_header ++ lines ss)) (sizes_line z ++ (sentences_header ++ lines ts)) e in
      let one = same_sizes y z (sentences_header ++ lines ss) (sentences_header ++ lines ts) (limits_fit y p.limits) (limits_fit z q.limits) sized in
      let rest = append_cancel_left sentences_header (lines ss) (lines ts) one.1 in
      (one.0, same_lines y z p.limits q.limits ss ts p.formed q.formed rest)

  -- the bytes that writing answered for are the book's text
  its_text : (b : Contents L) (before after : List ℕ) (n : ℕ) → Writes k b before (Ok n) after → take n after ≡ text_of k b.sizes b.sentences
  its_text b before after n w =
      let text = text_of k b.sizes b.sentences in
      ap (take n) w.2 ∙ take-append-le n text (drop n before) (omega (arith, w.0)) ∙ take_all n text (omega (arith, w.0))

  pub reads_back : ReadsBack k
  reads_back b old new before after n (Ok u) w can r =
      let one = one_book old.cells new.sizes b.sizes new.sentences b.sentences r.can_be can (sym r.its_text ∙ its_text b before after n w) in
      record { accepted = refl; sizes = one.0; sentences = one.1; fresh = ap (λ (c : Contents L). c.settled) r.book; over = ap (λ (c : Contents L). c.cells) r.book }
  reads_back b old new before after n (Err bad) w can r = absurd (r.no_book b.sizes b.sentences can (its_text b before after n w))
