use Rattle.std.proofs.Common.{◌≡◌, ℕ, List, ◌++◌, sym, refl, ap, ◌∙◌, rules}
use Rattle.std.specs.List.{flat_map}
use Rattle.std.proofs.lemmas.List.{append_assoc}
use Rattle.labels.specs.Kind.{Kind}
use Rattle.terms.specs.declared.Sizes.{Sizes}
use Rattle.terms.specs.declared.Sentence.{Sentence}
use Rattle.books.specs.Held.{contents}
use Rattle.output.proofs.Putting.{puts_then, puts_cut, puts_fill, puts_fill_cut}
use Rattle.texts.specs.Lines.{sizes_header, sizes_line, sentences_header, sentence_line, numbered, text_of}
use Rattle.texts.proofs.write.write_text.Goals as goal

-- the lines on the sentences
abbrev sentences_part : {L : Type 0} → Kind L → List (Sentence L) → List ℕ
sentences_part k ss = sentences_header ++ flat_map (λ s. sentence_line (numbered k s)) ss

-- the lines on the sizes and those on the sentences are the text
whole :
    {L : Type 0} (k : Kind L) (y z : Sizes) (xs ss : List (Sentence L)) → y ≡ z → xs ≡ ss
    → text_of k z ss ≡ (sizes_header ++ sizes_line y) ++ sentences_part k xs
whole k y z xs ss sizes sentences =
    sym (ap (λ y. (sizes_header ++ sizes_line y) ++ sentences_part k xs) sizes
    ∙ ap (λ xs. (sizes_header ++ sizes_line z) ++ sentences_part k xs) sentences
    ∙ append_assoc sizes_header (sizes_line z) (sentences_part k ss))

pub returns-in_err-put_sizes : goal.returns-in_err-put_sizes
returns-in_err-put_sizes g c =
    let book = contents c.args.book.now in
    let begun = c.new-output.ensures in
    let same = c.put_sizes.ensures.same_memory in
    puts_fill_cut c.from_residual.result begun.as_it_was begun.nothing_yet (search rules) c.from_residual.ensures.1
    (puts_cut (sentences_part g.L.Label.kind book.sentences) (whole g.L.Label.kind c.sizes.result book.sizes book.sentences book.sentences c.sizes.ensures refl)
    c.in_err-put_sizes.ensures)

pub returns-in_err-put_sentences : goal.returns-in_err-put_sentences
returns-in_err-put_sentences g c =
    let book = contents c.args.book.now in
    let begun = c.new-output.ensures in
    let same = c.put_sizes.ensures.same_memory in
    let same_again = c.put_sentences.ensures.same_memory in
    puts_fill_cut c.from_residual-in_err-put_sentences.result begun.as_it_was begun.nothing_yet (search rules) c.from_residual-in_err-put_sentences.ensures.1
    (puts_then (whole g.L.Label.kind c.sizes.result book.sizes c.sentences.result.now book.sentences c.sizes.ensures c.sentences.ensures)
    c.in_ok-put_sizes.ensures c.in_err-put_sentences.ensures)

pub returns : goal.returns
returns g c =
    let book = contents c.args.book.now in
    let begun = c.new-output.ensures in
    let same = c.put_sizes.ensures.same_memory in
    let same_again = c.put_sentences.ensures.same_memory in
    puts_fill begun.as_it_was begun.nothing_yet (search rules) c.count.ensures
    (puts_then (whole g.L.Label.kind c.sizes.result book.sizes c.sentences.result.now book.sentences c.sizes.ensures c.sentences.ensures)
    c.in_ok-put_sizes.ensures c.in_ok-put_sentences.ensures)
