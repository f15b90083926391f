use Rattle.std.proofs.Common.{length}
use Rattle.lines.proofs.Digits.{Begun}
use Rattle.lines.proofs.number_at.Given as goal

abbrev pub invariant-loop-digit : goal.invariant-loop-digit
invariant-loop-digit l = Begun l.text l.rest l.value

abbrev pub decreases-loop-digit : goal.decreases-loop-digit
decreases-loop-digit l = length l.rest
