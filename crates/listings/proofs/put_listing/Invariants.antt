use Rattle.std.proofs.Common.{Ok}
use Rattle.output.specs.Puts.{Puts}
use Rattle.listings.specs.Listing.{node_lines}
use Rattle.listings.proofs.Counts.{front}
use Rattle.listings.proofs.put_listing.Given as goal

abbrev pub invariant-loop-number : goal.invariant-loop-number
invariant-loop-number g l =
    Puts l.initial.output (front (node_lines g.L.Label.kind l.sizes (g.B.Board.meaning l.board)) 0 l.number) (Ok tt) l.output
