-- The line of each call, and the line of each answer. Assumes nothing.
use Rattle.std.specs.Prelude.{◌≡◌, ℕ, ◌^◌, ◌<◌, ◌≤◌, cond, List, [], ◌∷◌, ◌++◌, length, take, Some, None, Ok, Err, codes, decimal, Option, Result, ◌==◌, ◌≢◌}
use Rattle.std.proofs.Math.Utf8.{encodes}
use Rattle.labels.specs.Kind.{Kind}
use Rattle.terms.specs.declared.Refusal.{Refusal}
use Rattle.terms.specs.Refusals.{number_of, refused_line}
use Rattle.terms.specs.Sentences.{relabelled}
use Rattle.texts.specs.Lines.{misread_line}
use Rattle.runs.specs.declared.Request.{Request}
use Rattle.runs.specs.declared.Request.TheVariants as request
use Rattle.runs.specs.Account.{Answer, done, read, labelled, bytes}

-- numbers in decimal, a space before each
abbrev pub fields : List ℕ → List ℕ
fields [] = []
fields (n ∷ ns) = 32 ∷ (decimal n ++ fields ns)

-- each number has at most so many bits
abbrev pub WithinBits : ℕ → List ℕ → Type 0
WithinBits w [] = Unit {0}
WithinBits w (n ∷ ns) = (n < 2 ^ w) × WithinBits w ns

-- an amount of memory that may be asked for
abbrev pub MemoryFits : ℕ → Type 0
MemoryFits amount = amount ≤ 40000000

-- the line of a call, with the number of a label in place of the label
abbrev pub call_line : Request ℕ → List ℕ
call_line (request.Size z) = codes "size" ++ fields (z.concepts ∷ (z.roles ∷ (z.individuals ∷ [])))
call_line (request.Enter s) =
    codes "enter" ++ fields (s.form ∷ (s.first ∷ (s.second ∷ (s.role ∷ (s.third ∷ (s.label ∷ []))))))
call_line (request.Withdraw i) = codes "withdraw" ++ fields (i ∷ [])
call_line (request.Read text) = codes "read" ++ fields (length text.now ∷ [])
call_line (request.Write room) = codes "write" ++ fields (room ∷ [])
call_line request.Settle = codes "settle"
call_line (request.Label x B) = codes "label" ++ fields (x.0 ∷ (B.0 ∷ []))
call_line (request.List room) = codes "list" ++ fields (room ∷ [])

-- each number of the call fits its field: forms 8 bits, names and sizes 16, sentence and label numbers 64, room for output 40,000,000 bytes at most;
-- a reading takes a text, which no line holds
abbrev pub FieldsFit : Request ℕ → Type 0
FieldsFit (request.Size z) = WithinBits 16 (z.concepts ∷ (z.roles ∷ (z.individuals ∷ [])))
FieldsFit (request.Enter s) =
    (s.form < 2 ^ 8) × WithinBits 16 (s.first ∷ (s.second ∷ (s.role ∷ (s.third ∷ [])))) × (s.label < 2 ^ 64)
FieldsFit (request.Withdraw i) = i < 2 ^ 64
FieldsFit (request.Read text) = ⊥
FieldsFit (request.Write room) = MemoryFits room
FieldsFit request.Settle = Unit {0}
FieldsFit (request.Label x B) = WithinBits 16 (x.0 ∷ (B.0 ∷ []))
FieldsFit (request.List room) = MemoryFits room

-- the call that has this line, or that none has
abbrev pub ReadsLine : List ℕ → Option (Request ℕ) → Type 0
ReadsLine line (Some q) = FieldsFit q × (line ≡ call_line q)
ReadsLine line None = (q : Request ℕ) → FieldsFit q → line ≢ call_line q

-- the line that tells of a line that is no call
abbrev pub bad_line : ℕ → List ℕ
bad_line n = codes "bad line " ++ decimal n

-- bytes as characters of those numbers: a byte below 128 is itself
abbrev pub as_text : List ℕ → List ℕ
as_text memory = encodes memory

-- the answer to a call that writes: its line, and below it what was written; refused 9, that is all that the memory holds
abbrev pub written_answer : Result ℕ Refusal → (memory : List ℕ) → List ℕ
written_answer (Ok n) memory = codes "ok " ++ (decimal n ++ (10 ∷ as_text (take n memory)))
written_answer (Err e) memory = refused_line e ++ cond (number_of e == 9) (10 ∷ as_text memory) []

module _ {L : Type 0} (k : Kind L) where
  -- the call with its label by number
  abbrev pub by_number : Request L → Request ℕ
  by_number (request.Size z) = request.Size z
  by_number (request.Enter s) = request.Enter (relabelled s (k.number s.label))
  by_number (request.Withdraw i) = request.Withdraw i
  by_number (request.Read text) = request.Read text
  by_number (request.Write room) = request.Write room
  by_number request.Settle = request.Settle
  by_number (request.Label x B) = request.Label x B
  by_number (request.List room) = request.List room

  -- the same call, or that its label's number is none of the kind's
  abbrev pub SameCall : Request ℕ → Option (Request L) → Type 0
  SameCall q (Some r) = by_number r ≡ q
  SameCall q None = (r : Request L) → by_number r ≢ q

  -- the line of an answer, and below it what the call wrote
  abbrev pub answer_line : Answer L → List ℕ
  answer_line (done (Ok u)) = codes "ok"
  answer_line (done (Err e)) = refused_line e
  answer_line (read (Ok u)) = codes "ok"
  answer_line (read (Err bad)) = misread_line bad
  answer_line (labelled (Ok l)) = codes "ok " ++ decimal (k.number l)
  answer_line (labelled (Err e)) = refused_line e
  answer_line (bytes r memory) = written_answer r memory
