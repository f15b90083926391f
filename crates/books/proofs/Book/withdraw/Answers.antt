use Rattle.std.proofs.Common.{length, take, arith, rules}
use Rattle.std.proofs.lemmas.List.{length-take-le}
use Rattle.books.proofs.Kept.{one_less}
use Rattle.books.proofs.Gaps.{gap_closed}
use Rattle.books.proofs.Book.withdraw.Goals as goal

pub invariant_of-self-clause-can_be : goal.invariant_of-self-clause-can_be
invariant_of-self-clause-can_be g c =
    let b = c.args.self.now in
    let cells = b.cells.now in
    let long = c.copy_within.ensures.len in
    let closed = gap_closed cells c.args.number b.count c.copy_within.new.self c.if-number-self.false b.fits c.copy_within.ensures.after in
    let whole = length-take-le b.count cells b.fits in
    let kept = one_less (length cells) b.sizes (take b.count cells) b.can_be c.args.number (omega (arith, whole)) in
    rw long (rw closed kept)

pub returns-clause-withdrawn : goal.returns-clause-withdrawn
returns-clause-withdrawn g c =
    let b = c.args.self.now in
    let long = c.copy_within.ensures.len in
    let closed = gap_closed b.cells.now c.args.number b.count c.copy_within.new.self c.if-number-self.false b.fits c.copy_within.ensures.after in
    let whole = length-take-le b.count b.cells.now b.fits in
    search (rules, long, closed, whole)
