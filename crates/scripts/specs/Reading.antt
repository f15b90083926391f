-- What it is to read numbers and a call off a line. Assumes nothing.
use Rattle.std.specs.Prelude.{◌≡◌, ℕ, List, ◌++◌, length, Some, None, Option, ◌≢◌}
use Rattle.terms.specs.declared.Concept.{Concept}
use Rattle.terms.specs.declared.Node.{Node}
use Rattle.runs.specs.declared.Request.{Request}
use Rattle.runs.specs.declared.Request.TheVariants as request
use Rattle.scripts.specs.Lines.{fields, WithinBits, call_line, FieldsFit}

-- the line is the word and so many numbers of 64 bits; or it is no such line
abbrev pub ReadsNumbers : ℕ → (word line : List ℕ) → Option (List ℕ) → Type 0
ReadsNumbers count word line (Some ns) = (length ns ≡ count) × WithinBits 64 ns × (line ≡ word ++ fields ns)
ReadsNumbers count word line None = (ns : List ℕ) → length ns ≡ count → WithinBits 64 ns → line ≢ word ++ fields ns

-- the line is that of one sort of call, made of what the call is given; or it is no such line
abbrev pub ReadsCall : {X : Type 0} → (X → Request ℕ) → List ℕ → Option (Request ℕ) → Type 0
ReadsCall {X} call line (Some q) = (x : X) × (q ≡ call x) × FieldsFit q × (line ≡ call_line q)
ReadsCall {X} call line None = (x : X) → FieldsFit (call x) → line ≢ call_line (call x)

-- a settlement, which is given nothing
abbrev pub settle_call : Unit {0} → Request ℕ
settle_call nothing = request.Settle

-- a question for the label of a node in a concept
abbrev pub label_call : Node × Concept → Request ℕ
label_call asked = request.Label asked.0 asked.1
