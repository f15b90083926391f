use Rattle.std.proofs.Common.{◌≡◌, ◌+◌, ◌-◌, suc, take, Some, None, arith}
use Rattle.std.proofs.lemmas.Slice.Eq.{strip_prefix_is}
use Rattle.std.proofs.lemmas.List.{length-replicate, length-set, take_more_set}
use Rattle.std.proofs.lemmas.Bool.Decides.{Decides-eqb}
use Rattle.scripts.proofs.Fields.{found_none, found_more, stuck}
use Rattle.scripts.proofs.numbers.Goals as goal

pub returns-in_err-rest : goal.returns-in_err-rest
returns-in_err-rest g c =
    rw c.from_residual.ensures
    (λ ns many within e. strip_prefix_is Decides-eqb c.args.line.now c.args.word.now None c.in_err-rest.ensures.cases _ e)

pub loop-slot-init : goal.loop-slot-init
loop-slot-init g c =
    let rest = c.in_ok-rest.rest in let all : g.row.N - 0 ≡ g.row.N = omega arith in (
      rw all (found_none g.row.N c.args.word.now c.args.line.now rest.now
          (strip_prefix_is Decides-eqb c.args.line.now c.args.word.now (Some rest) c.in_ok-rest.ensures.cases)),
      length-replicate g.row.N 0,
    )

pub returns-in_err-number : goal.returns-in_err-number
returns-in_err-number g c =
    let l = c.loop-slot in
    let left : g.row.N - l.slot-index ≡ suc (g.row.N - (l.slot-index + 1)) = omega arith in
    rw c.from_residual-in_err-number.ensures
    (l.invariant.0.none (rw left (stuck (g.row.N - (l.slot-index + 1)) l.rest.now (λ n more small. c.in_err-number.ensures n more (omega arith)))))

pub loop-slot-preserved : goal.loop-slot-preserved
loop-slot-preserved g c =
    let l = c.loop-slot in let step = c.in_ok-number.ensures in
    let left : g.row.N - l.slot-index ≡ suc (g.row.N - (l.slot-index + 1)) = omega arith in (
      rw (take_more_set l.slot-items l.slot-index c.in_ok-number.number (omega arith))
          (found_more g.row.N c.args.word.now c.args.line.now (g.row.N - (l.slot-index + 1)) (take l.slot-index l.slot-items) l.rest.now c.in_ok-number.after.now c.in_ok-number.number
          (rw left at l.invariant.0) (omega arith) step.1 step.2),
      simp length-set l.invariant.1,
    )
