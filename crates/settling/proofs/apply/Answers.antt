use Rattle.std.proofs.Common.{rules}
use Rattle.settling.proofs.Forms.{concept_assertion_turn, role_assertion_turn}
use Rattle.settling.proofs.apply.Goals as goal

pub returns-in-Ok-ConceptAssertion : goal.returns-in-Ok-ConceptAssertion
returns-in-Ok-ConceptAssertion g c =
    let b = g.B.Board in
    record {
      applied = concept_assertion_turn g.L.Label.laws c.args.sizes c.args.sentence (b.meaning c.args.board.now) (b.meaning c.gain.new.board)
          c.requires.ready (search rules)
          c.gain.result c.member_place-third.result c.args.sentence.label c.member_place-third.ensures (cc) c.gain.ensures.gained;
    }

pub returns-in-Ok-RoleAssertion : goal.returns-in-Ok-RoleAssertion
returns-in-Ok-RoleAssertion g c =
    let b = g.B.Board in
    record {
      applied = role_assertion_turn g.L.Label.laws c.args.sizes c.args.sentence (b.meaning c.args.board.now) (b.meaning c.gain-in-Ok-RoleAssertion.new.board)
          c.requires.ready (search rules)
          c.gain-in-Ok-RoleAssertion.result c.link_place-link.result c.args.sentence.label c.link_place-link.ensures (cc) c.gain-in-Ok-RoleAssertion.ensures.gained;
    }
