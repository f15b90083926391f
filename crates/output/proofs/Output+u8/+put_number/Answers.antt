use Rattle.std.proofs.Common.{◌+◌, ◌%◌, [], ◌∷◌, sym, subst, arith}
use Rattle.std.proofs.lemmas.Fmt.{decimal_digit, decimal_step}
use Rattle.output.specs.Puts.{Puts}
use Rattle.output.proofs.Putting.{puts_then, puts_cut, puts_left}
use Rattle.output.proofs.Output+u8.+put_number.Goals as goal

pub returns-then-number-lt10 : goal.returns-then-number-lt10
returns-then-number-lt10 t c =
    subst (λ digits. Puts c.args.self.now digits c.put.result c.put.new.self) (sym (decimal_digit c.args.number (omega arith)))
    c.put.ensures

pub returns-in_err-put_number : goal.returns-in_err-put_number
returns-in_err-put_number t c =
    puts_left c.from_residual.ensures.1
    (puts_cut ((48 + c.args.number % 10) ∷ []) (decimal_step c.args.number (omega arith) (omega arith)) c.in_err-put_number.ensures)

pub returns : goal.returns
returns t c = puts_then (decimal_step c.args.number (omega arith) (omega arith)) c.in_ok-put_number.ensures c.put-2.ensures
