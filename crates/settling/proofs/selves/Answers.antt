use Rattle.std.proofs.Common.{◌<◌, arith}
use Rattle.terms.specs.Places.{member}
use Rattle.theory.specs.Rules.{self}
use Rattle.settling.proofs.Rounds.{seed_more, seed_refused}
use Rattle.settling.proofs.Turns.{left_by}
use Rattle.settling.proofs.selves.Goals as goal

pub returns-in_err-gain : goal.returns-in_err-gain
returns-in_err-gain g c =
    let b = g.B.Board in
    let l = c.loop-concept in
    let done = c.in_err-gain.ensures in
    let below : l.concept < c.args.sizes.concepts = omega (arith, c.loop-concept-test.true) in
    let left = left_by c.from_residual.result c.in_err-gain.field-0.0 c.from_residual.ensures.1 in
    rw left
    (record {
      seeds = seed_refused g.L.Label.laws (λ x. member x x) l.concept (omega (arith, below), below) (λ ss. self below)
          (b.meaning l.board) (b.meaning c.gain.new.board) c.requires.ready l.invariant
          c.member_place.result c.all.result c.member_place.ensures c.all.ensures c.in_err-gain.field-0.0 done.gained;
    })

pub loop-concept-preserved : goal.loop-concept-preserved
loop-concept-preserved g c =
    let b = g.B.Board in
    let l = c.loop-concept in
    let done = c.in_ok-gain.ensures in
    let below : l.concept < c.args.sizes.concepts = omega (arith, c.loop-concept-test.true) in
    seed_more g.L.Label.laws (λ x. member x x) l.concept (omega (arith, below), below) (λ ss. self below)
    (b.meaning l.board) (b.meaning c.gain.new.board) c.requires.ready l.invariant
    c.member_place.result c.all.result c.member_place.ensures c.all.ensures c.in_ok-gain.field-0 done.gained
