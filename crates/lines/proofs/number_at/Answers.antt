use Rattle.std.proofs.Common.{◌+◌, ◌*◌, ◌<◌, ◌≤◌, length, Decides, refl, arith, rules, tests}
use Rattle.std.proofs.lemmas.Bool.{both_ways}
use Rattle.lines.proofs.Digits.{begun_none, begun_more}
use Rattle.lines.proofs.Numbers.{padded, too_large, number_read}
use Rattle.lines.proofs.number_at.Goals as goal
use Rattle.lines.proofs.number_at.Goals.{then-rest-text, else-rest-text}

pub returns-then-has_leading_zero : goal.returns-then-has_leading_zero
returns-then-has_leading_zero c n rest small past e =
    padded n c.args.text.now rest (omega arith) past e (c.has_leading_zero.ensures.0 c.if-has_leading_zero.true)

pub returns-in_err-checked_mul : goal.returns-in_err-checked_mul
returns-in_err-checked_mul c =
    let l = c.loop-digit in let d = c.in-Some.digit in let more = c.in-Some.more.now in
    let next = begun_more c.args.text.now l.rest.now more l.value d (l.value * 10 + d) l.invariant c.in-Some.ensures refl in
    rw c.from_residual.ensures
    (λ n rest small past e. too_large c.args.text.now more (l.value * 10 + d) next (omega (arith, c.in_err-checked_mul.ensures)) n rest (omega arith) past e)

pub returns-in_err-value : goal.returns-in_err-value
returns-in_err-value c =
    let l = c.loop-digit in let d = c.in-Some.digit in let more = c.in-Some.more.now in
    let next = begun_more c.args.text.now l.rest.now more l.value d (l.value * 10 + d) l.invariant c.in-Some.ensures refl in
    rw c.from_residual-in_err-value.ensures
    (λ n rest small past e.
    too_large c.args.text.now more (l.value * 10 + d) next (omega (arith, c.in_ok-checked_mul.ensures.1, c.in_err-value.ensures)) n rest (omega arith) past e)

pub loop-digit-init : goal.loop-digit-init
loop-digit-init c = begun_none c.args.text.now

pub loop-digit-preserved : goal.loop-digit-preserved
loop-digit-preserved c =
    let l = c.loop-digit in
    begun_more c.args.text.now l.rest.now c.in-Some.more.now l.value c.in-Some.digit c.in_ok-value.value l.invariant c.in-Some.ensures
    (omega (arith, c.in_ok-checked_mul.ensures.1, c.in_ok-value.ensures.1))

pub returns : goal.returns
returns c =
    let text = c.args.text.now in let l = c.loop-digit in
    let read : Decides c.if-rest-text.then_some ((length l.rest.now < length text) × (l.value ≤ c.args.most)) = elim c.if-rest-text.branch [
      | then-rest-text w ↦ (let a = w.if-rest-text in let b = w.then_some-is in search (rules, tests))
      | else-rest-text w ↦ (let a = w.if-rest-text in let b = w.then_some-is in search (rules, tests))
    ] in
    rw c.then_some.ensures
    (number_read c.args.most text l.rest l.value (omega arith) l.invariant c.in_default.ensures
    (λ p. both_ways c.has_leading_zero.result c.if-has_leading_zero.false (c.has_leading_zero.ensures.1 p)) c.if-rest-text.then_some read)
