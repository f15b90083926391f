use Rattle.std.proofs.Common.{take, Ok}
use Rattle.output.specs.Puts.{Puts}
use Rattle.output.proofs.Output+u8.put_bytes.Given as goal

abbrev pub invariant-loop-byte : goal.invariant-loop-byte
invariant-loop-byte l = Puts l.initial.self (take l.byte-index l.bytes) (Ok tt) l.self
