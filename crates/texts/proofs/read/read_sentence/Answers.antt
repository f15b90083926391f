use Rattle.std.proofs.Common.{◌≡◌, Some, None, Err, refl, rules}
use Rattle.terms.specs.declared.Refusal.TheVariants.{MalformedLine}
use Rattle.texts.specs.Parts.{unlike, unfit}
use Rattle.texts.proofs.read.read_sentence.Goals as goal

pub returns-in_err-sentence-clause-reads : goal.returns-in_err-sentence-clause-reads
returns-in_err-sentence-clause-reads g c =
    let none : c.sentence_line.result ≡ None = search rules in
    let refused : c.from_residual.result ≡ Err MalformedLine = search rules in
    rw refused (unlike (rw none at c.sentence_line.ensures), refl)

pub returns-in_err-enter-clause-reads : goal.returns-in_err-enter-clause-reads
returns-in_err-enter-clause-reads g c =
    let some : c.sentence_line.result ≡ Some (c.in_ok-sentence.sentence, c.in_ok-sentence.rest) = search rules in
    let refused : c.from_residual-in_err-enter.result ≡ Err c.in_err-enter.field-0.0 = search rules in
    let line = rw some at c.sentence_line.ensures in let entered = c.in_err-enter.ensures.enters in
    rw refused (unfit c.in_ok-sentence.sentence c.in_ok-sentence.rest.now c.in_err-enter.field-0.0 line.0 line.1 entered.0, entered.1)
