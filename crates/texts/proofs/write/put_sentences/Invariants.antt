use Rattle.std.proofs.Common.{take, Ok}
use Rattle.std.specs.List.{flat_map}
use Rattle.output.specs.Puts.{Puts}
use Rattle.texts.specs.Lines.{sentence_line, numbered}
use Rattle.texts.proofs.write.put_sentences.Given as goal

abbrev pub invariant-loop-sentence : goal.invariant-loop-sentence
invariant-loop-sentence g l =
    Puts l.initial.output (flat_map (λ s. sentence_line (numbered g.L.Label.kind s)) (take l.sentence-index l.sentences)) (Ok tt) l.output
