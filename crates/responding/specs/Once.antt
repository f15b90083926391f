-- That what is printed is determined by the input. Assumes nothing.
use Rattle.std.specs.Prelude.{◌≡◌, ℕ, List, length, Result}
use Rattle.labels.specs.Kind.{Kind}
use Rattle.texts.specs.declared.Misread.{Misread}
use Rattle.responding.specs.Answers.{Held, Answers}

-- as many cells, a board of the same size and capacity, and as much output memory, whatever they hold
pub record SameRoom {L : Type 0} (one other : Held L) : Type 0 where
  pub cells : other.book.cells ≡ one.book.cells
  pub size : other.board.size ≡ one.board.size
  pub capacity : other.board.capacity ≡ one.board.capacity
  pub out : length other.out ≡ length one.out

-- two answers to one input, given as much memory, are the same: so the same bytes are printed
abbrev pub OneAnswer : {L : Type 0} → Kind L → Type 0
OneAnswer {L} k =
    (input : List ℕ) (before before' after after' : Held L) (a a' : Result (List ℕ) Misread) → SameRoom before before'
    → Answers k input before a after → Answers k input before' a' after' → a' ≡ a
