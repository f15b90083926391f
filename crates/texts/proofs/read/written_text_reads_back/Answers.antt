use Rattle.texts.proofs.Once.{reads_back}
use Rattle.texts.proofs.read.written_text_reads_back.Goals as goal

pub returns : goal.returns
returns g c = reads_back g.L.Label.kind g.L.Label.laws
