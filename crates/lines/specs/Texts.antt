-- The lines of a text, and where a byte stands in it. Assumes nothing.
use Rattle.std.specs.Prelude.{◌≡◌, ℕ, zero, suc, ◌<◌, ◌≤◌, cond, ◌⊎◌, List, [], ◌∷◌, ◌++◌, length, ◌==◌, ◌≢◌, slice_index}
use Rattle.std.specs.List.{AllByRecursion}

-- where a byte first stands in a text, or the text's end
pub record FirstAt (b : ℕ) (text : List ℕ) (at : ℕ) : Type 0 where
  pub within : at ≤ length text
  pub before : (k : ℕ) → k < at → slice_index text k ≢ b
  pub found : at < length text → slice_index text at ≡ b

-- the byte does not stand in the text
abbrev pub Without : ℕ → List ℕ → Type 0
Without b text = AllByRecursion (λ x. x ≢ b) text

-- the text is empty, or begins with the byte
abbrev pub SetOff : ℕ → List ℕ → Type 0
SetOff b [] = Unit {0}
SetOff b (x ∷ xs) = x ≡ b

-- the first line of a text, without its line feed
abbrev pub first_line : List ℕ → List ℕ
first_line [] = []
first_line (b ∷ bs) = cond (b == 10) [] (b ∷ first_line bs)

-- the text after its first line and the line feed
abbrev pub after_line : List ℕ → List ℕ
after_line [] = []
after_line (b ∷ bs) = cond (b == 10) bs (after_line bs)

-- a text is a line with no line feed in it, and then a line feed and the rest; or it is that line alone
abbrev pub LineAndRest : List ℕ → List ℕ → List ℕ → Type 0
LineAndRest text line rest = Without 10 line × ((text ≡ line ++ (10 ∷ rest)) ⊎ ((text ≡ line) × (rest ≡ [])))

-- the text after its first n lines
abbrev pub after_lines : ℕ → List ℕ → List ℕ
after_lines zero text = text
after_lines (suc n) text = after_lines n (after_line text)

-- line n of a text, the first of which is line 0
abbrev pub line_at : ℕ → List ℕ → List ℕ
line_at n text = first_line (after_lines n text)
