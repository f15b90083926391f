use Rattle.std.proofs.Common.{◌+◌, ap, arith}
use Rattle.settling.proofs.Readiness.{ready_sound}
use Rattle.settling.proofs.Links.{links_all, links_more}
use Rattle.settling.proofs.existential_on_left.Goals as goal

pub loop-place-preserved : goal.loop-place-preserved
loop-place-preserved g c =
    let b = g.B.Board in
    let l = c.loop-place in
    let start = c.link_place-start in
    let next = c.in-Some.ensures in
    let done = c.in_ok-grew.ensures in (
      omega (arith, l.invariant.0, next.0),
      links_more g.L.Label.laws c.args.sizes c.args.sentence (ready_sound c.requires.ready) c.args.node.0 start.result start.ensures
          (b.meaning l.board) l.from c.in-Some.place l.invariant.0 next.3 l.invariant.1 (b.meaning c.through_link.new.board) next.0
          done.applied,
    )

pub returns : goal.returns
returns g c =
    let l = c.loop-place in
    let start = c.link_place-start in
    record {
      applied = links_all g.L.Label.laws c.args.sizes c.args.sentence (ready_sound c.requires.ready) c.args.node.0 start.result start.ensures
          (g.B.Board.meaning l.board) l.from (start.result + c.nodes.result) l.invariant.0 c.in_default.ensures l.invariant.1 (ap (λ n. start.result + n) c.nodes.ensures) c.requires.form;
    }
