-- The four lines that ask for a script's memory, and what it is to read them. Assumes nothing.
use Rattle.std.specs.Prelude.{◌≡◌, ℕ, zero, suc, ◌+◌, ◌^◌, ◌<◌, List, [], ◌∷◌, ◌++◌, Ok, Err, codes, Option, Result}
use Rattle.scripts.specs.declared.BadLine.{BadLine}
use Rattle.scripts.specs.declared.LabelKind.{LabelKind}
use Rattle.scripts.specs.declared.LabelKind.TheVariants as kind
use Rattle.scripts.specs.declared.BoardPlan.{BoardPlan}
use Rattle.scripts.specs.declared.BoardPlan.TheVariants as plan
use Rattle.scripts.specs.declared.Setup.{Setup}
use Rattle.scripts.specs.Lines.{fields, MemoryFits}
use Rattle.lines.specs.Texts.{line_at}
use Rattle.lines.specs.Numbers.{Reads}

abbrev pub BoardFits : BoardPlan → Type 0
BoardFits (plan.Dense cells) = MemoryFits cells
BoardFits (plan.Sparse size entries) = (size < 2 ^ 32) × MemoryFits entries

abbrev pub SetupFits : Setup → Type 0
SetupFits s = MemoryFits s.cells × BoardFits s.board × MemoryFits s.words

-- the line of each part
abbrev pub kind_line : LabelKind → List ℕ
kind_line kind.Models = codes "kind models"
kind_line kind.Grades = codes "kind grades"
kind_line kind.Whole = codes "kind whole"

abbrev pub memory_line : List ℕ → ℕ → List ℕ
memory_line word amount = word ++ fields (amount ∷ [])

abbrev pub board_line : BoardPlan → List ℕ
board_line (plan.Dense cells) = codes "board dense" ++ fields (cells ∷ [])
board_line (plan.Sparse size entries) = codes "board sparse" ++ fields (size ∷ (entries ∷ []))

-- line n of the four, the first of which is line 0
abbrev pub setup_line : Setup → ℕ → List ℕ
setup_line s zero = kind_line s.kind
setup_line s (suc zero) = memory_line (codes "book") s.cells
setup_line s (suc (suc zero)) = board_line s.board
setup_line s (suc (suc (suc n))) = memory_line (codes "words") s.words

-- a line read as each part
abbrev pub ReadsKind : List ℕ → Option LabelKind → Type 0
ReadsKind line r = Reads (λ k. Unit {0}) kind_line line r

abbrev pub ReadsMemory : List ℕ → List ℕ → Option ℕ → Type 0
ReadsMemory word line r = Reads MemoryFits (memory_line word) line r

abbrev pub ReadsBoard : List ℕ → Option BoardPlan → Type 0
ReadsBoard line r = Reads BoardFits board_line line r

-- line n of the script is that of some setup
abbrev pub LineStands : List ℕ → ℕ → Type 0
LineStands script n = (s : Setup) × SetupFits s × (line_at n script ≡ setup_line s n)

-- line n of the four is the first that is no setup's
abbrev pub FirstBad : List ℕ → ℕ → Type 0
FirstBad script n = (n < 4) × ((k : ℕ) → k < n → LineStands script k) × (LineStands script n → ⊥)

-- the setup that the first four lines are, or the number, from 1 on, of the first of them that is no setup's
abbrev pub ReadsSetup : List ℕ → Result Setup BadLine → Type 0
ReadsSetup script (Ok s) = SetupFits s × ((n : ℕ) → n < 4 → line_at n script ≡ setup_line s n)
ReadsSetup script (Err bad) = (n : ℕ) × (bad.number ≡ n + 1) × FirstBad script n
