use Rattle.std.proofs.Common.{◌≡◌, ◌-◌, length, take}
use Rattle.scripts.proofs.Fields.{Found}
use Rattle.scripts.proofs.numbers.Given as goal

abbrev pub invariant-loop-slot : goal.invariant-loop-slot
invariant-loop-slot g l = Found g.row.N l.word l.line (g.row.N - l.slot-index) (take l.slot-index l.slot-items) l.rest × (length l.slot-items ≡ g.row.N)
