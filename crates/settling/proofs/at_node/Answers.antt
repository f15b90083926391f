use Rattle.std.proofs.Common.{rules}
use Rattle.settling.proofs.Forms.{inclusion_turn, conjunction_turn, existential_on_right_turn}
use Rattle.settling.proofs.at_node.Goals as goal

pub returns-in-Ok-Inclusion : goal.returns-in-Ok-Inclusion
returns-in-Ok-Inclusion g c =
    let b = g.B.Board in
    record {
      applied = inclusion_turn g.L.Label.laws c.args.sizes c.args.sentence (b.meaning c.args.board.now) (b.meaning c.gain.new.board)
          c.requires.ready c.args.node.0 c.requires.node (search rules)
          c.gain.result c.member_place-third.result c.both.result c.member_place-third.ensures (cc) c.gain.ensures.gained;
    }

pub returns-in-Ok-Conjunction : goal.returns-in-Ok-Conjunction
returns-in-Ok-Conjunction g c =
    let b = g.B.Board in
    record {
      applied = conjunction_turn g.L.Label.laws c.args.sizes c.args.sentence (b.meaning c.args.board.now) (b.meaning c.gain-in-Ok-Conjunction.new.board)
          c.requires.ready c.args.node.0 c.requires.node (search rules)
          c.gain-in-Ok-Conjunction.result c.member_place-third.result c.both-in-Ok-Conjunction-2.result c.member_place-third.ensures (cc) c.gain-in-Ok-Conjunction.ensures.gained;
    }

pub returns-in-Ok-ExistentialOnRight : goal.returns-in-Ok-ExistentialOnRight
returns-in-Ok-ExistentialOnRight g c =
    let b = g.B.Board in
    record {
      applied = existential_on_right_turn g.L.Label.laws c.args.sizes c.args.sentence (b.meaning c.args.board.now) (b.meaning c.gain-in-Ok-ExistentialOnRight.new.board)
          c.requires.ready c.args.node.0 c.requires.node (search rules)
          c.gain-in-Ok-ExistentialOnRight.result c.link_place-link.result c.both-in-Ok-ExistentialOnRight.result c.link_place-link.ensures (cc) c.gain-in-Ok-ExistentialOnRight.ensures.gained;
    }
