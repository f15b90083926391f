use Rattle.std.proofs.Common.{arith}
use Rattle.output.proofs.Putting.{puts_left}
use Rattle.listings.proofs.Rows.{row_next, row_ends, row_cut}
use Rattle.listings.proofs.put_node.Goals as goal

pub returns-in_err-put_label : goal.returns-in_err-put_label
returns-in_err-put_label g c =
    let k = g.L.Label.kind in
    let m = g.B.Board.meaning c.args.board.now in
    let top = c.member_place-top in
    let l = c.loop-place in
    let p = c.in-Some.place in
    let next = c.in-Some.ensures in
    let node = c.args.node.0 in
    puts_left c.from_residual.ensures.1
    (row_cut k m top.result node c.args.sizes top.ensures p (omega (arith, l.invariant.0, next.0)) (omega (arith, next.1, c.from.ensures))
    (row_next k m top.result node l.from p c.read.result l.invariant.0 next.0 next.3 c.read.ensures.the_label next.2 l.invariant.2
    c.in_err-put_label.ensures))

pub loop-place-preserved : goal.loop-place-preserved
loop-place-preserved g c =
    let l = c.loop-place in
    let p = c.in-Some.place in
    let next = c.in-Some.ensures in (
      omega (arith, l.invariant.0, next.0),
      omega (arith, l.invariant.0, next.0, next.1),
      row_next g.L.Label.kind (g.B.Board.meaning c.args.board.now) c.member_place-top.result c.args.node.0 l.from p c.read.result
          l.invariant.0 next.0 next.3 c.read.ensures.the_label next.2 l.invariant.2 c.in_ok-put_label.ensures,
    )

pub returns : goal.returns
returns g c =
    let top = c.member_place-top in
    let l = c.loop-place in
    let concepts = c.from.ensures in
    row_ends g.L.Label.kind (g.B.Board.meaning c.args.board.now) top.result c.args.node.0 c.args.sizes top.ensures l.from l.invariant.0
    (omega (arith, l.invariant.1, concepts)) (λ q low high. c.in_default.ensures q low (omega (arith, concepts))) l.invariant.2
