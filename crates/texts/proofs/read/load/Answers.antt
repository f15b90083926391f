use Rattle.std.proofs.Common.{◌≡◌, ℕ, length, Ok, Err, sym, ap, ◌∙◌, subst, arith, rules}
use Rattle.std.proofs.lemmas.List.{nil_from_length}
use Rattle.std.proofs.lemmas.Bool.{eqb-true, eqb-false}
use Rattle.books.specs.Held.{contents}
use Rattle.texts.specs.Texts.{BadLine}
use Rattle.texts.specs.Parts.{NextSentence, BadSentence}
use Rattle.texts.proofs.Steps.{so_far_more, so_far_bad, so_far_read, one_more}
use Rattle.texts.proofs.read.load.Goals as goal

pub returns-in_err-rest-2-clause-loads : goal.returns-in_err-rest-2-clause-loads
returns-in_err-rest-2-clause-loads g c =
    let k = g.L.Label.kind in let l = c.loop-rest in let text = c.args.text.now in let e = c.in_err-rest-2.field-0.0.refusal in
    let old = contents c.args.book.now in let sized = contents c.read_sizes.new.book in
    let over : sized.cells ≡ old.cells = c.in_ok-rest.ensures.reads.so_far.over in
    let answer : c.read_sentence.result ≡ Err e = search rules in
    let refused : c.from_residual-in_err-rest-2.result ≡ Err (record { refusal = e; line = l.line }) = search rules in
    let read : BadSentence k (contents l.book).sizes (contents l.book).cells (length (contents l.book).sentences) l.rest.now e × (contents c.read_sentence.new.book ≡ contents l.book) =
    rw answer at c.read_sentence.ensures.reads in
    let bad = so_far_bad k sized.cells text l.rest.now (contents l.book) l.invariant.0 e
    (λ none. eqb-false (length l.rest.now) 0 (sym c.loop-rest-test.ensures) (ap length none)) read.0 in
    rw refused (record {
      first_bad =
          subst (λ (n : ℕ). BadLine k n text e l.line) over
          (subst (λ (i : ℕ). BadLine k sized.cells text e i) (sym l.invariant.2) bad);
      over = ap (λ b. b.cells) read.1 ∙ l.invariant.0.over ∙ over;
    })

pub loop-rest-preserved : goal.loop-rest-preserved
loop-rest-preserved g c =
    let k = g.L.Label.kind in let l = c.loop-rest in let old = contents l.book in let new = contents c.read_sentence.new.book in
    let answer : c.read_sentence.result ≡ Ok c.in_ok-rest-2.rest = search rules in
    let read : NextSentence k old l.rest.now c.in_ok-rest-2.rest.now new = rw answer at c.read_sentence.ensures.reads in
    let long = one_more k l.rest.now c.in_ok-rest-2.rest.now old new read in (
      so_far_more k (contents c.read_sizes.new.book).cells c.args.text.now l.rest.now old l.invariant.0 c.in_ok-rest-2.rest.now new read,
      c.read_sentence.ensures.same_cells ∙ l.invariant.1,
      omega (arith, long, l.invariant.2),
      omega (arith, read.shorter, l.invariant.3),
    )

pub returns-clause-loads : goal.returns-clause-loads
returns-clause-loads g c =
    let k = g.L.Label.kind in let l = c.loop-rest in
    so_far_read k (contents c.read_sizes.new.book).cells c.args.text.now l.rest.now (contents l.book) l.invariant.0 (contents c.args.book.now)
    (sym c.in_ok-rest.ensures.reads.so_far.over)
    (nil_from_length l.rest.now (eqb-true (length l.rest.now) 0 (sym c.loop-rest-test.ensures)))
