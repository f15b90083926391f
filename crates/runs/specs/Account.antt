-- The account of a list of calls: what book and board are, and what a call answers. Assumes nothing.
use Rattle.std.specs.Prelude.{◌≡◌, ℕ, List, Result}
use Rattle.labels.specs.Kind.{Kind}
use Rattle.terms.specs.declared.Refusal.{Refusal}
use Rattle.boards.specs.Meaning.{Meaning, Cleared}
use Rattle.books.specs.Contents.{Contents, blank_book}
use Rattle.texts.specs.declared.Misread.{Misread}
use Rattle.runs.specs.declared.Outcome.{Outcome}
use Rattle.runs.specs.declared.Outcome.TheVariants.{Done, Read, Label, Bytes}

-- the account: the book and the board
pub record Account (L : Type 0) : Type 0 where
  pub book : Contents L
  pub board : Meaning L

-- the two together
abbrev pub account : {L : Type 0} → Contents L → Meaning L → Account L
account b m = record { book = b; board = m }

-- the account as a list of calls starts: the book blank, the board cleared
pub record Fresh {L : Type 0} (k : Kind L) (cells : ℕ) (board : Meaning L) (a : Account L) : Type 0 where
  pub book : a.book ≡ blank_book cells
  pub board_cleared : Cleared k board a.board

-- what a call answers, and what memory that it was given to write in then holds
pub data Answer (L : Type 0) : Type 0 where
  done : Result (Unit {0}) Refusal → Answer L
  read : Result (Unit {0}) Misread → Answer L
  labelled : Result L Refusal → Answer L
  bytes : Result ℕ Refusal → (memory : List ℕ) → Answer L

-- what a logged outcome says
abbrev pub said : {L : Type 0} → Outcome L → Answer L
said (Done r) = done r
said (Read r) = read r
said (Label r) = labelled r
said (Bytes r memory) = bytes r memory.items
