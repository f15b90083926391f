use Rattle.std.proofs.Common.{List, ℕ, refl}
use Rattle.std.specs.List.{flat_map}
use Rattle.terms.specs.declared.Sentence.{Sentence}
use Rattle.labels.specs.Kind.{Kind}
use Rattle.output.proofs.Putting.{puts_then, puts_cut, puts_left, puts_more, puts_more_cut, puts_all}
use Rattle.texts.specs.Lines.{sentence_line, numbered}
use Rattle.texts.proofs.write.put_sentences.Goals as goal

-- the line of a sentence, by its label's number
abbrev line : {L : Type 0} → Kind L → Sentence L → List ℕ
line k s = sentence_line (numbered k s)

pub returns-in_err-put_bytes : goal.returns-in_err-put_bytes
returns-in_err-put_bytes g c =
    puts_left c.from_residual.ensures.1
    (puts_cut (flat_map (line g.L.Label.kind) c.args.sentences.now) refl c.in_err-put_bytes.ensures)

pub returns-in_err-put_sentence : goal.returns-in_err-put_sentence
returns-in_err-put_sentence g c =
    puts_left c.from_residual-in_err-put_sentence.ensures.1
    (puts_then refl c.in_ok-put_bytes.ensures
    (puts_more_cut (line g.L.Label.kind) c.args.sentences.now c.loop-sentence-test.true c.sentence-item.is c.loop-sentence.invariant
    c.in_err-put_sentence.ensures))

pub loop-sentence-preserved : goal.loop-sentence-preserved
loop-sentence-preserved g c =
    puts_more (line g.L.Label.kind) c.args.sentences.now c.loop-sentence-test.true c.sentence-item.is c.loop-sentence.invariant
    c.in_ok-put_sentence.ensures

pub returns : goal.returns
returns g c =
    puts_then refl c.in_ok-put_bytes.ensures
    (puts_all (line g.L.Label.kind) c.args.sentences.now c.loop-sentence-test.false c.loop-sentence.invariant)
