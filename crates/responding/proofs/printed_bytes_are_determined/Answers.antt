use Rattle.responding.proofs.Once.{one_answer}
use Rattle.responding.proofs.printed_bytes_are_determined.Goals as goal

pub returns : goal.returns
returns g c = one_answer g.L.Label.kind g.L.Label.laws
