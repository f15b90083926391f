-- Checks in order: when none finds a fault, and what one check found. Assumes nothing.
use Rattle.std.proofs.Common.{◌≡◌, ℕ, Bool, true, false, cond, List, [], ◌∷◌, Some, None, Ok, Err, Option, Result, sym, refl, ap, ◌∙◌, subst, arith}
use Rattle.terms.specs.declared.Refusal.{Refusal}
use Rattle.terms.specs.Refusals.{first_fault, After, Checked, Accepted}

-- a first check that finds nothing leaves the rest
pub past_check : (found : Bool) (e : Refusal) (checks : List (Bool × Refusal)) → found ≡ false → first_fault checks ≡ None → first_fault ((found, e) ∷ checks) ≡ None
past_check found e checks none rest = ap (λ t. cond t (Some e) (first_fault checks)) none ∙ rest

-- where no check finds a fault, the first finds none, and the rest find none
pub no_fault : (found : Bool) (e : Refusal) (checks : List (Bool × Refusal)) → first_fault ((found, e) ∷ checks) ≡ None → (found ≡ false) × (first_fault checks ≡ None)
no_fault true e checks h = let z : ◌≡◌ {A = ℕ} 0 1 = cc in absurd (omega arith)
no_fault false e checks h = (refl, h)

module _ {X : Type 0} (fault : Option Refusal) (r : Result X Refusal) (unchanged : Type 0) (passed : Result X Refusal → Type 0) where
  -- no fault was found, and the call did what it should
  pub faultless : fault ≡ None → passed r → After fault r unchanged passed
  faultless e h = subst (λ (f : Option Refusal). After f r unchanged passed) (sym e) h

-- what a check that stands alone says: refused with e just where it found its fault
abbrev pub Alone : Bool → Refusal → Result (Unit {0}) Refusal → Type 0
Alone found e r = Checked ((found, e) ∷ []) r (Unit {0}) (Accepted (λ u. Unit {0}))

module _ (e : Refusal) where
  pub alone_passed : (found : Bool) → Alone found e (Ok tt) → found ≡ false
  alone_passed true h = let same = h.0 in let z : ◌≡◌ {A = ℕ} 0 1 = cc in absurd (omega arith)
  alone_passed false h = refl

  pub alone_refused : (found : Bool) (b : Refusal) → Alone found e (Err b) → (found ≡ true) × (b ≡ e)
  alone_refused true b h = let same = h.0 in (refl, cc)
  alone_refused false b h = absurd h
