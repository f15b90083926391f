use Rattle.std.proofs.Common.{vec_items}
use Rattle.sessions.proofs.Noting.{Completes}
use Rattle.sessions.proofs.take_lines.Given as goal

-- however the rest is noted, all the lines are then noted
abbrev pub invariant-loop-line : goal.invariant-loop-line
invariant-loop-line g l = Completes g.L.Label.kind l.lines l.line-iterator.rest.now (vec_items l.replies) (vec_items l.requests)
