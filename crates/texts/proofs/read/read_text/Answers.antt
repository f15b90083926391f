use Rattle.std.proofs.Common.{sym}
use Rattle.books.specs.Held.{contents}
use Rattle.texts.proofs.Faults.{refused_blank}
use Rattle.texts.proofs.read.read_text.Goals as goal

pub returns-then-is_err-clause-reads : goal.returns-then-is_err-clause-reads
returns-then-is_err-clause-reads g c =
    let mid = contents c.load-answer.new.book in let new = contents c.clear.new.self in
    refused_blank g.L.Label.kind g.L.Label.laws (contents c.args.book.now) mid new c.args.text.now c.load-answer.result
    (sym c.if-is_err.ensures.value) c.load-answer.ensures.loads
    c.clear.ensures.blank
