use Rattle.texts.proofs.Faults.{one_bad_line}
use Rattle.texts.proofs.read.first_bad_line_is_determined.Goals as goal

pub returns : goal.returns
returns g c = one_bad_line g.L.Label.kind g.L.Label.laws
