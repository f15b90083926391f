use Rattle.boards.proofs.Searches.{next_is_least}
use Rattle.boards.proofs.sparse.SparseBoard.next_some.Goals as goal

pub returns : goal.returns
returns g c =
    let board = c.args.self.now in
    next_is_least g.L.Label.kind g.L.Label.laws board.entries.now board.used board.size board.sound c.args.from c.args.to c.smallest_place.result c.smallest_place.ensures
