use Rattle.std.proofs.Common.{rules}
use Rattle.settling.proofs.Ends.{left_short}
use Rattle.settling.proofs.settle.Goals as goal

pub returns-then-is_err : goal.returns-then-is_err
returns-then-is_err g c =
    let b = g.B.Board in
    let short = left_short g.L.Label.laws c.args.sizes c.args.sentences.now (b.meaning c.args.board.now) (b.meaning c.clear.new.self)
    (b.meaning c.fill-filled.new.board) (b.meaning c.clear-then-is_err.new.self) c.fill-filled.result (cc) c.clear.ensures.cleared c.fill-filled.ensures.filled c.clear-then-is_err.ensures.cleared in
    search rules
