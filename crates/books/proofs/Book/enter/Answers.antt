use Rattle.std.proofs.Common.{length, take, arith, rules}
use Rattle.std.proofs.lemmas.Bool.{not-false}
use Rattle.std.proofs.lemmas.List.{length-set, length-take-le, take_more_set}
use Rattle.terms.specs.declared.Refusal.TheVariants.{MalformedSentence}
use Rattle.terms.specs.Sentences.{well_formed}
use Rattle.terms.proofs.Faults.{alone_passed, alone_refused}
use Rattle.books.proofs.Kept.{one_more}
use Rattle.books.proofs.Book.enter.Goals as goal

pub invariant_of-self-clause-can_be : goal.invariant_of-self-clause-can_be
invariant_of-self-clause-can_be g c =
    let b = c.args.self.now in
    let cells = b.cells.now in
    let long = length-set cells b.count c.args.sentence in
    let more = take_more_set cells b.count c.args.sentence (omega arith) in
    let whole = length-take-le b.count cells b.fits in
    let formed = not-false (well_formed b.sizes c.args.sentence) (alone_passed MalformedSentence _ c.in_ok-check.ensures) in
    let kept = one_more (length cells) b.sizes (take b.count cells) b.can_be c.args.sentence formed (omega (arith, whole)) in
    rw long (rw more kept)

pub returns-in_err-check-clause-entered : goal.returns-in_err-check-clause-entered
returns-in_err-check-clause-entered g c =
    let fault = alone_refused MalformedSentence _ c.in_err-check.field-0.0 c.in_err-check.ensures in
    search (rules, fault)

pub returns-clause-entered : goal.returns-clause-entered
returns-clause-entered g c =
    let b = c.args.self.now in
    let cells = b.cells.now in
    let long = length-set cells b.count c.args.sentence in
    let more = take_more_set cells b.count c.args.sentence (omega arith) in
    let whole = length-take-le b.count cells b.fits in
    search (rules, long, more, whole)
