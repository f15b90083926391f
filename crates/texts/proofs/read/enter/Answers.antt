use Rattle.std.proofs.Common.{◌≡◌, true, false, Some, None, Err, rules, refl}
use Rattle.std.proofs.lemmas.Bool.{not-true, not-false}
use Rattle.terms.specs.declared.Refusal.TheVariants.{MalformedSentence, NoSuchLabel}
use Rattle.terms.specs.Sentences.{well_formed}
use Rattle.terms.proofs.Faults.{alone_passed, alone_refused}
use Rattle.books.specs.Held.{contents}
use Rattle.texts.specs.Parts.{ill_formed, unlabelled}
use Rattle.texts.proofs.Calls.{entered_labelled}
use Rattle.texts.proofs.read.enter.Goals as goal

pub returns-in_err-check-clause-enters : goal.returns-in_err-check-clause-enters
returns-in_err-check-clause-enters g c =
    let fault = alone_refused MalformedSentence _ c.in_err-check.field-0.0 c.in_err-check.ensures in
    let refused : c.from_residual.result ≡ Err MalformedSentence = search (rules, fault) in
    let formed : well_formed (contents c.args.book.now).sizes c.args.sentence ≡ false = search (rules, not-true _ fault.0) in
    rw refused (ill_formed formed, refl)

pub returns-in_err-label-clause-enters : goal.returns-in_err-label-clause-enters
returns-in_err-label-clause-enters g c =
    let none : c.from_number.result ≡ None = search rules in
    let refused : c.from_residual-in_err-label.result ≡ Err NoSuchLabel = search rules in
    let formed : well_formed (contents c.args.book.now).sizes c.args.sentence ≡ true = search (rules, not-false _ (alone_passed MalformedSentence _ c.in_ok-check.ensures)) in
    rw refused (unlabelled formed (rw none at c.from_number.ensures), refl)

pub returns-clause-enters : goal.returns-clause-enters
returns-clause-enters g c =
    let some : c.from_number.result ≡ Some c.in_ok-label.label = search rules in
    let formed : well_formed (contents c.args.book.now).sizes c.args.sentence ≡ true = search (rules, not-false _ (alone_passed MalformedSentence _ c.in_ok-check.ensures)) in
    entered_labelled g.L.Label.kind (contents c.args.book.now) (contents c.enter.new.self) c.args.sentence c.in_ok-label.label
    (rw some at c.from_number.ensures) formed c.enter.result (rw c.with_label.ensures at c.enter.ensures.entered)
