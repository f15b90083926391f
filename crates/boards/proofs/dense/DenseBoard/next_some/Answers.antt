use Rattle.std.proofs.Common.{rules, tests}
use Rattle.std.proofs.lemmas.Iterator.{first_from_Range}
use Rattle.boards.specs.Dense.{dense_meaning}
use Rattle.boards.proofs.Cells.{next_in_cells}
use Rattle.boards.proofs.Ranges.{IsSome, IsNone}
use Rattle.boards.proofs.dense.DenseBoard.next_some.Goals as goal

pub returns : goal.returns
returns g c =
    let k = g.L.Label.kind in
    let cells = c.args.self.now.cells.now in
    let m = dense_meaning k c.args.self.now in
    next_in_cells k g.L.Label.laws cells c.args.from c.args.to c.min.result (search rules) c.find.result
    (first_from_Range _ _ _ c.find.result (IsSome k m) (IsNone k m) c.find.ensures.ran (λ p q called. search (rules, tests)) (λ p q called. search (rules, tests)))
