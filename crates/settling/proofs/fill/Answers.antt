use Rattle.settling.proofs.Ends.{brought}
use Rattle.settling.proofs.fill.Goals as goal

pub returns : goal.returns
returns g c =
    let b = g.B.Board in
    let done = c.in_ok-round.ensures in
    record {
      filled = brought g.L.Label.laws c.args.sizes c.args.sentences.now (b.meaning c.args.board.now) c.requires.none c.requires.ready
          (b.meaning c.tops.new.board) (b.meaning c.selves.new.board) (b.meaning c.loop.board) (b.meaning c.round.new.board)
          c.in_ok-tops.ensures.seeds c.in_ok-selves.ensures.seeds c.loop.invariant (cc) done.applied;
    }
