-- How the lines of a script are noted before its calls are made, and what is told of them after. Assumes nothing.
use Rattle.std.specs.Prelude.{◌≡◌, ℕ, suc, ◌<◌, List, [], ◌∷◌, ◌++◌, length, Some, None, Ok, Err, Option, Result}
use Rattle.std.specs.Borrow.{Bor}
use Rattle.labels.specs.Kind.{Kind}
use Rattle.terms.specs.declared.Refusal.TheVariants as refusal
use Rattle.terms.specs.Refusals.{refused_line}
use Rattle.runs.specs.declared.Request.{Request}
use Rattle.runs.specs.Account.{Answer}
use Rattle.runs.specs.Law.{Memory, Run}
use Rattle.scripts.specs.Lines.{ReadsLine, SameCall, answer_line, bad_line}
use Rattle.lines.specs.Texts.{LineAndRest}
use Rattle.sessions.specs.declared.Unmade.{Unmade}
use Rattle.sessions.specs.declared.Unmade.TheVariants.{NoSuchLabel, BadLine}
use Rattle.sessions.specs.Answered.{Told}

-- the next line of a text and what is left, or that none is left
abbrev pub NextLine : (text : List ℕ) → Option (Bor (List ℕ)) → (rest : List ℕ) → Type 0
NextLine text None rest = text ≡ []
NextLine text (Some line) rest = (0 < length text) × LineAndRest text line.now rest

-- how a line is answered: by the outcome of the next call, or by why it makes none
abbrev pub Reply : Type 0
Reply = Result (Unit {0}) Unmade

-- how many of the replies are by the outcome of a call
abbrev pub calls_among : List Reply → ℕ
calls_among [] = 0
calls_among (Ok made ∷ replies) = suc (calls_among replies)
calls_among (Err why ∷ replies) = calls_among replies

-- the line that tells why line n makes no call
abbrev pub unmade_line : (n : ℕ) → Unmade → List ℕ
unmade_line n NoSuchLabel = refused_line refusal.NoSuchLabel
unmade_line n BadLine = bad_line n

module _ {L : Type 0} (k : Kind L) where
  -- the line is this call, or makes none for this reason
  abbrev pub Notes : (line : List ℕ) → Result (Request L) Unmade → Type 0
  Notes line (Ok r) = (q : Request ℕ) × ReadsLine line (Some q) × SameCall k q (Some r)
  Notes line (Err NoSuchLabel) = (q : Request ℕ) × ReadsLine line (Some q) × SameCall k q None
  Notes line (Err BadLine) = ReadsLine line None

  -- the lines of a text are noted: a reply for each, and the calls in their order
  pub data Noted : (text : List ℕ) → List Reply → List (Request L) → Type 0 where
    no_line : Noted [] [] []
    call :
        {text line rest : List ℕ} {r : Request L} {replies : List Reply} {requests : List (Request L)}
        → 0 < length text → LineAndRest text line rest → Notes line (Ok r)
        → Noted rest replies requests → Noted text (Ok tt ∷ replies) (r ∷ requests)
    no_call :
        {text line rest : List ℕ} (why : Unmade) {replies : List Reply} {requests : List (Request L)}
        → 0 < length text → LineAndRest text line rest → Notes line (Err why)
        → Noted rest replies requests → Noted text (Err why ∷ replies) requests

  -- the text of the replies, the first of which is to line n: those by the outcome of a call with the answers in their order
  abbrev pub told_lines : (n : ℕ) → List Reply → List (Answer L) → List ℕ
  told_lines n [] os = []
  told_lines n (Ok made ∷ replies) [] = []
  told_lines n (Ok made ∷ replies) (o ∷ os) = answer_line k o ++ (10 ∷ told_lines (suc n) replies os)
  told_lines n (Err why ∷ replies) os = unmade_line n why ++ (10 ∷ told_lines (suc n) replies os)

  -- the lines are answered by a run of their calls from this memory
  pub record AnswersFrom (before : Memory L) (lines told : List ℕ) : Type 0 where
    pub requests : List (Request L)
    pub answers : List (Answer L)
    pub after : Memory L
    pub lines_told : Told k 5 lines requests answers told
    pub run : Run k before requests answers after
