use Rattle.std.proofs.Common.{◌∷◌, take, Ok, decimal}
use Rattle.std.specs.List.{flat_map}
use Rattle.output.specs.Puts.{Puts}
use Rattle.texts.proofs.write.put_values.Given as goal

abbrev pub invariant-loop-other : goal.invariant-loop-other
invariant-loop-other l = Puts l.initial.output (flat_map (λ n. 32 ∷ decimal n) (take l.other-index l.others)) (Ok tt) l.output
