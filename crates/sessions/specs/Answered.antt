-- What a script is answered: the text of the answers, line by line, and the run of its calls. Assumes nothing.
use Rattle.std.specs.Prelude.{◌≡◌, ℕ, suc, ◌<◌, List, [], ◌∷◌, ◌++◌, length, Some, None, Ok, Err, Result}
use Rattle.labels.specs.Kind.{Kind}
use Rattle.labels.specs.Kinds.{model_kind, grade_kind, whole_kind}
use Rattle.terms.specs.declared.Refusal.TheVariants.{NoSuchLabel}
use Rattle.terms.specs.Refusals.{refused_line}
use Rattle.boards.specs.Meaning.{Meaning, Made}
use Rattle.runs.specs.declared.Request.{Request}
use Rattle.runs.specs.Account.{Answer}
use Rattle.runs.specs.Law.{Memory, Run}
use Rattle.scripts.specs.declared.BadLine.{BadLine}
use Rattle.scripts.specs.declared.LabelKind.TheVariants as kind
use Rattle.scripts.specs.declared.BoardPlan.{BoardPlan}
use Rattle.scripts.specs.declared.BoardPlan.TheVariants as plan
use Rattle.scripts.specs.declared.Setup.{Setup}
use Rattle.scripts.specs.Lines.{ReadsLine, SameCall, answer_line, bad_line}
use Rattle.lines.specs.Texts.{LineAndRest, after_lines}
use Rattle.scripts.specs.Setups.{ReadsSetup}

-- the lines of a text, the first of which is line n, are answered: a call by the next of the answers, a call whose label number is none of
-- the kind's by refusal 3, and any other line by its number
pub data Told {L : Type 0} (k : Kind L) : (n : ℕ) → (text : List ℕ) → List (Request L) → List (Answer L) → (told : List ℕ) → Type 0 where
  no_line : {n : ℕ} → Told k n [] [] [] []
  call :
      {n : ℕ} {text line rest told : List ℕ} {q : Request ℕ} {r : Request L} {rs : List (Request L)} {o : Answer L} {os : List (Answer L)}
      → 0 < length text → LineAndRest text line rest → ReadsLine line (Some q) → SameCall k q (Some r)
      → Told k (suc n) rest rs os told → Told k n text (r ∷ rs) (o ∷ os) (answer_line k o ++ (10 ∷ told))
  no_label :
      {n : ℕ} {text line rest told : List ℕ} {q : Request ℕ} {rs : List (Request L)} {os : List (Answer L)}
      → 0 < length text → LineAndRest text line rest → ReadsLine line (Some q) → SameCall k q None
      → Told k (suc n) rest rs os told → Told k n text rs os (refused_line NoSuchLabel ++ (10 ∷ told))
  no_call :
      {n : ℕ} {text line rest told : List ℕ} {rs : List (Request L)} {os : List (Answer L)}
      → 0 < length text → LineAndRest text line rest → ReadsLine line None
      → Told k (suc n) rest rs os told → Told k n text rs os (bad_line n ++ (10 ∷ told))

-- the board that a plan asks for, made
abbrev pub Planned : {L : Type 0} → Kind L → BoardPlan → Meaning L → Type 0
Planned k (plan.Dense cells) board = Made k cells cells board
Planned k (plan.Sparse size entries) board = Made k size entries board

-- the lines are answered by a run of their calls, on a book and a board of the memory asked for
pub record AnswersIn {L : Type 0} (k : Kind L) (setup : Setup) (lines told : List ℕ) : Type 0 where
  pub requests : List (Request L)
  pub answers : List (Answer L)
  pub before : Memory L
  pub after : Memory L
  pub lines_told : Told k 5 lines requests answers told
  pub cells : length before.cells ≡ setup.cells
  pub board : Planned k setup.board before.board
  pub run : Run k before requests answers after

-- the same in the kind of label that the script names
abbrev pub AnswersSetup : Setup → (lines told : List ℕ) → Type 0
AnswersSetup setup lines told =
    elim setup.kind [
      | kind.Models ↦ AnswersIn model_kind setup lines told
      | kind.Grades ↦ AnswersIn grade_kind setup lines told
      | kind.Whole ↦ AnswersIn whole_kind setup lines told
    ]

-- a script is answered: the lines after its first four, or the number of the first of those four that is not as it should be
abbrev pub AnsweredBy : (script : List ℕ) → Result Setup BadLine → (told : List ℕ) → Type 0
AnsweredBy script (Ok setup) told = AnswersSetup setup (after_lines 4 script) told
AnsweredBy script (Err bad) told = told ≡ bad_line bad.number ++ (10 ∷ [])

abbrev pub Answered : (script told : List ℕ) → Type 0
Answered script told = (setup : Result Setup BadLine) × ReadsSetup script setup × AnsweredBy script setup told
