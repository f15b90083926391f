use Rattle.std.proofs.Common.{◌+◌, ◌-◌, ◌≤◌, Ok}
use Rattle.output.specs.Puts.{Puts}
use Rattle.listings.proofs.Rows.{lines_before}
use Rattle.listings.proofs.put_node.Given as goal

abbrev pub invariant-loop-place : goal.invariant-loop-place
invariant-loop-place g l =
    (l.top + 1 ≤ l.from)
    × (l.from - (l.top + 1) ≤ l.end - l.top - 1)
    × Puts l.initial.output (lines_before g.L.Label.kind (g.B.Board.meaning l.board) l.top l.node.0 l.from) (Ok tt) l.output

abbrev pub decreases-loop-place : goal.decreases-loop-place
decreases-loop-place g l = l.end - l.from
