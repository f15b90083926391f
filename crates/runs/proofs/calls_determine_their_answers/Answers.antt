use Rattle.runs.proofs.Alike.{determined}
use Rattle.runs.proofs.calls_determine_their_answers.Goals as goal

pub returns : goal.returns
returns g c = determined g.L.Label.kind g.L.Label.laws
