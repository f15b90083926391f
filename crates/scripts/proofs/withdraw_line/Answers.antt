use Rattle.std.proofs.Common.{[], ◌∷◌, refl}
use Rattle.scripts.proofs.withdraw_line.Goals as goal

pub returns-in_err-number : goal.returns-in_err-number
returns-in_err-number c = rw c.from_residual.ensures (λ i fit e. c.in_err-number.ensures (i ∷ []) refl (fit, tt) e)
