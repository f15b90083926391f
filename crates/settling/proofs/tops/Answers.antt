use Rattle.std.proofs.Common.{◌<◌, arith}
use Rattle.terms.specs.Places.{nodes, member}
use Rattle.theory.specs.Rules.{top}
use Rattle.settling.proofs.Readiness.{ready_sound}
use Rattle.settling.proofs.Rounds.{seed_more, seed_refused}
use Rattle.settling.proofs.Turns.{left_by}
use Rattle.settling.proofs.tops.Goals as goal

pub returns-in_err-gain : goal.returns-in_err-gain
returns-in_err-gain g c =
    let b = g.B.Board in
    let l = c.loop-number in
    let done = c.in_err-gain.ensures in
    let below : l.number < nodes c.args.sizes = omega (arith, c.loop-number-test.true) in
    let left = left_by c.from_residual.result c.in_err-gain.field-0.0 c.from_residual.ensures.1 in
    rw left
    (record {
      seeds = seed_refused g.L.Label.laws (λ x. member x 0) l.number (below, (ready_sound c.requires.ready).has_top) (λ ss. top below)
          (b.meaning l.board) (b.meaning c.gain.new.board) c.requires.ready l.invariant
          c.member_place.result c.all.result c.member_place.ensures c.all.ensures c.in_err-gain.field-0.0 done.gained;
    })

pub loop-number-preserved : goal.loop-number-preserved
loop-number-preserved g c =
    let b = g.B.Board in
    let l = c.loop-number in
    let done = c.in_ok-gain.ensures in
    let below : l.number < nodes c.args.sizes = omega (arith, c.loop-number-test.true) in
    seed_more g.L.Label.laws (λ x. member x 0) l.number (below, (ready_sound c.requires.ready).has_top) (λ ss. top below)
    (b.meaning l.board) (b.meaning c.gain.new.board) c.requires.ready l.invariant
    c.member_place.result c.all.result c.member_place.ensures c.all.ensures c.in_ok-gain.field-0 done.gained
