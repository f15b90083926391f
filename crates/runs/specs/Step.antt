-- One call of a list, on any account. Assumes nothing.
use Rattle.std.specs.Prelude.{◌≡◌, Ok, Err, Result}
use Rattle.labels.specs.Kind.{Kind}
use Rattle.runs.specs.declared.Request.{Request}
use Rattle.runs.specs.declared.Outcome.{Outcome}
use Rattle.runs.specs.Account.{Account, said}
use Rattle.runs.specs.Law.{Gives, Claims, TrueAccount}

-- a call gives what it should; made on a true account, its answer means what it should and the account stays true
pub record Step {L : Type 0} (k : Kind L) (before : Account L) (q : Request L) (o : Outcome L) (after : Account L) : Type 0 where
  pub gives : Gives k before q (said o) after
  pub claims : TrueAccount k before → Claims k before q (said o)
  pub stays_true : TrueAccount k before → TrueAccount k after

-- the same of a call that may find no memory to write in: then nothing is done
abbrev pub Made : {L E : Type 0} → Kind L → (before : Account L) → Request L → Result (Outcome L) E → (after : Account L) → Type 0
Made k before q (Ok o) after = Step k before q o after
Made k before q (Err e) after = after ≡ before
