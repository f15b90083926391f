-- Numbers and lines at the start of a text. Assumes nothing.
use Rattle.std.specs.Prelude.{◌≡◌, ℕ, ◌≤◌, Bool, true, List, ◌∷◌, ◌++◌, Some, None, decimal, Option, ◌≢◌}
use Rattle.std.specs.Borrow.{Bor}
use Rattle.texts.specs.Texts.{Opens}

-- a number up to the limit with the byte that ends it begins the text, or none does
abbrev pub Field : (most end : ℕ) → List ℕ → Option (ℕ × Bor (List ℕ)) → Type 0
Field most end text None = (n : ℕ) (more : List ℕ) → n ≤ most → text ≢ decimal n ++ (end ∷ more)
Field most end text (Some p) = (p.0 ≤ most) × (text ≡ decimal p.0 ++ (end ∷ p.1.now))

-- the line of some value whose numbers fit begins the text, or that of none does
abbrev pub Line : {S : Type 0} → (fits : S → Bool) → (line : S → List ℕ) → List ℕ → Option (S × Bor (List ℕ)) → Type 0
Line {S} fits line text None = (s : S) (more : List ℕ) → fits s ≡ true → Opens text (line s) more → ⊥
Line fits line text (Some p) = (fits p.0 ≡ true) × Opens text (line p.0) p.1.now
