-- What it is to read a value, and a number, off a text. Assumes nothing.
use Rattle.std.specs.Prelude.{◌≡◌, ℕ, ◌<◌, ◌≤◌, List, [], ◌∷◌, ◌++◌, length, Some, None, decimal, Option, ◌≢◌, slice_index}
use Rattle.std.specs.Borrow.{Bor}
use Rattle.std.specs.Int.{IsInRange}
use Rattle.lines.specs.Texts.{SetOff}

-- the value that has this text, or that none that fits has
abbrev pub Reads : {X : Type 0} → (X → Type 0) → (X → List ℕ) → List ℕ → Option X → Type 0
Reads Fits written text (Some x) = Fits x × (text ≡ written x)
Reads {X} Fits written text None = (x : X) → Fits x → text ≢ written x

-- the byte is a digit
abbrev pub Digit : ℕ → Type 0
Digit b = IsInRange 48 57 b

-- the text does not begin with a digit
abbrev pub PastDigits : List ℕ → Type 0
PastDigits [] = Unit {0}
PastDigits (b ∷ bs) = Digit b → ⊥

-- the text is a number up to the limit and a rest that does not begin with a digit; or it is no such text
abbrev pub NumberAt : ℕ → List ℕ → Option (ℕ × Bor (List ℕ)) → Type 0
NumberAt most text (Some p) = (p.0 ≤ most) × PastDigits p.1.now × (text ≡ decimal p.0 ++ p.1.now)
NumberAt most text None = (n : ℕ) (rest : List ℕ) → n ≤ most → PastDigits rest → text ≢ decimal n ++ rest

-- the text is a space, a number up to the limit, and a rest that a space sets off; or it is no such text
abbrev pub ReadsFirst : ℕ → List ℕ → Option (ℕ × Bor (List ℕ)) → Type 0
ReadsFirst most text (Some p) = (p.0 ≤ most) × SetOff 32 p.1.now × (text ≡ 32 ∷ (decimal p.0 ++ p.1.now))
ReadsFirst most text None = (n : ℕ) (rest : List ℕ) → n ≤ most → SetOff 32 rest → text ≢ 32 ∷ (decimal n ++ rest)
