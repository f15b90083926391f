use Rattle.std.proofs.Common.{[], ◌∷◌, refl, arith}
use Rattle.scripts.proofs.Narrowed.{memory_read}
use Rattle.scripts.proofs.memory_line.Goals as goal

pub returns-in_err-amount : goal.returns-in_err-amount
returns-in_err-amount c = rw c.from_residual.ensures (λ amount fit e. c.in_err-amount.ensures (amount ∷ []) refl (omega (arith, fit), tt) e)

pub returns : goal.returns
returns c = memory_read c.args.line.now c.in_ok-amount.field-0 c.args.word.now c.in_ok-amount.ensures c.memory.result c.memory.ensures
