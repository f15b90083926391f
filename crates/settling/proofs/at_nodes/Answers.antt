use Rattle.settling.specs.Turn.{AtNode}
use Rattle.settling.proofs.Turns.{turn_next}
use Rattle.settling.proofs.at_nodes.Goals as goal

pub loop-number-preserved : goal.loop-number-preserved
loop-number-preserved g c =
    turn_next (AtNode g.L.Label.kind c.args.sizes c.args.sentence) {new = g.B.Board.meaning c.at_node.new.board}
    c.loop-number.invariant c.in_ok-grew.ensures.applied
