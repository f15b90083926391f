use Rattle.std.proofs.Common.{rules, tests}
use Rattle.std.proofs.lemmas.Iterator.{first_from_Range}
use Rattle.boards.proofs.Ranges.{IsSome, IsNone, next_in_range}
use Rattle.boards.proofs.Board.next_some.Goals as goal

pub returns : goal.returns
returns g c =
    let k = g.L.Label.kind in
    let m = g.Self.Board.meaning c.args.self.now in
    next_in_range k m c.args.from c.args.to c.find.result
    (first_from_Range _ _ _ c.find.result (IsSome k m) (IsNone k m) c.find.ensures.ran (λ p q called. search (rules, tests)) (λ p q called. search (rules, tests)))
