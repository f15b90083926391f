use Rattle.settling.proofs.Readiness.{ready_still, ready_one, at_in}
use Rattle.settling.proofs.Rounds.{round_more, round_refused}
use Rattle.settling.proofs.Turns.{left_by}
use Rattle.settling.proofs.round.Goals as goal

pub apply-requires : goal.apply-requires
apply-requires g c =
    let l = c.loop-sentence in
    let s = c.sentence-item in
    record {
      ready = ready_one (ready_still c.requires.ready (g.B.Board.meaning l.board) l.invariant.grown.size)
          s.result (at_in c.args.sentences.now l.sentence-index s.result c.loop-sentence-test.true s.is);
    }

pub returns-in_err-grew : goal.returns-in_err-grew
returns-in_err-grew g c =
    let b = g.B.Board in
    let l = c.loop-sentence in
    let s = c.sentence-item in
    let done = c.in_err-grew.ensures in
    let left = left_by c.from_residual.result c.in_err-grew.field-0.0 c.from_residual.ensures.1 in
    rw left
    (record {
      applied = (
        done.applied.0,
        round_refused c.args.sentences.now l.sentence-index s.result c.loop-sentence-test.true s.is
            (b.meaning l.board) (b.meaning c.apply.new.board) l.invariant done.applied.1,
      );
    })

pub loop-sentence-preserved : goal.loop-sentence-preserved
loop-sentence-preserved g c =
    let b = g.B.Board in
    let l = c.loop-sentence in
    let s = c.sentence-item in
    let done = c.in_ok-grew.ensures in
    round_more c.args.sentences.now l.sentence-index s.result c.loop-sentence-test.true s.is
    (b.meaning l.board) (b.meaning c.apply.new.board) l.invariant done.applied
