use Rattle.std.proofs.Common.{◌+◌, refl, arith}
use Rattle.terms.specs.Places.{nodes}
use Rattle.output.proofs.Putting.{puts_then, puts_cut, puts_left}
use Rattle.listings.specs.Listing.{node_lines}
use Rattle.listings.proofs.Counts.{front, puts_counted, puts_rest, puts_front_cut}
use Rattle.listings.proofs.put_listing.Goals as goal

pub returns-in_err-put_bytes : goal.returns-in_err-put_bytes
returns-in_err-put_bytes g c =
    let lines = node_lines g.L.Label.kind c.args.sizes (g.B.Board.meaning c.args.board.now) in
    puts_left c.from_residual.ensures.1 (puts_cut (front lines 0 (nodes c.args.sizes)) refl c.in_err-put_bytes.ensures)

pub returns-in_err-put_node : goal.returns-in_err-put_node
returns-in_err-put_node g c =
    let lines = node_lines g.L.Label.kind c.args.sizes (g.B.Board.meaning c.args.board.now) in
    let l = c.loop-number in
    puts_left c.from_residual-in_err-put_node.ensures.1
    (puts_then refl c.in_ok-put_bytes.ensures
    (puts_front_cut lines 0 (l.number + 1) (nodes c.args.sizes) (omega (arith, c.loop-number-test.true))
    (puts_counted lines l.number l.invariant c.in_err-put_node.ensures)))

pub loop-number-preserved : goal.loop-number-preserved
loop-number-preserved g c =
    let lines = node_lines g.L.Label.kind c.args.sizes (g.B.Board.meaning c.args.board.now) in
    puts_counted lines c.loop-number.number c.loop-number.invariant c.in_ok-put_node.ensures

pub returns : goal.returns
returns g c =
    let lines = node_lines g.L.Label.kind c.args.sizes (g.B.Board.meaning c.args.board.now) in
    let l = c.loop-number in
    puts_then refl c.in_ok-put_bytes.ensures
    (puts_rest lines 0 l.number (nodes c.args.sizes) (omega (arith, l.auto.number-end))
    (λ j low high. absurd (omega (arith, c.loop-number-test.false))) l.invariant)
