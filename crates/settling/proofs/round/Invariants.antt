use Rattle.std.proofs.Common.{take}
use Rattle.settling.specs.Turn.{Turn, ObeysAll}
use Rattle.settling.proofs.round.Given as goal

abbrev pub invariant-loop-sentence : goal.invariant-loop-sentence
invariant-loop-sentence g l =
    let k = g.L.Label.kind in
    let b = g.B.Board in
    Turn k l.sizes l.sentences (ObeysAll k l.sizes (take l.sentence-index l.sentences))
    (b.meaning l.initial.board) (b.meaning l.board) l.grew
