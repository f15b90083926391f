use Rattle.std.proofs.Common.{rules}
use Rattle.boards.proofs.Cells.{filled_none}
use Rattle.boards.proofs.dense.clear_cells.Goals as goal

pub returns : goal.returns
returns g c = filled_none g.L.Label.kind.none _ (λ f l f' step. search rules) c.fill_with.new.self _ _ c.fill_with.ensures.ran.1
