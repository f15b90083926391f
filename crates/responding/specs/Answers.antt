-- What a program answers to its input, and the bytes that it prints. Assumes nothing.
use Rattle.std.specs.Prelude.{◌≡◌, ℕ, ◌+◌, ◌<◌, ◌≤◌, true, List, [], ◌∷◌, ◌++◌, length, take, drop, Ok, Err, Option, Result, ◌≢◌}
use Rattle.labels.specs.Kind.{Kind}
use Rattle.terms.specs.declared.Refusal.TheVariants.{TooFewPlaces, BoardFull, MemoryTooShort}
use Rattle.terms.specs.declared.Sentence.{Sentence}
use Rattle.terms.specs.Places.{places}
use Rattle.theory.specs.Entailed.{LabelsHoldWhatEveryWorldSays}
use Rattle.theory.specs.Rules.{Overfull}
use Rattle.boards.specs.Meaning.{Meaning, Cleared}
use Rattle.settling.specs.Settled.{label_on, SettledBoard}
use Rattle.books.specs.Contents.{Contents, blank_book, marked}
use Rattle.texts.specs.declared.Misread.{Misread}
use Rattle.texts.specs.Lines.{misread_line, outside_reading}
use Rattle.texts.specs.Texts.{ReadBook, RefusedText}
use Rattle.listings.specs.Listing.{listing}
use Rattle.std.specs.Io.KnownBytes.{Appends}
use Rattle.responding.specs.Reading.{Takes}

-- the most bytes of input that are read
abbrev pub input_room : ℕ
input_room = 16384

-- the line that tells a refusal
abbrev pub refusal_line : Misread → List ℕ
refusal_line bad = misread_line bad ++ (10 ∷ [])

-- the bytes that an answer is printed as: a listing, or the line of a refusal
abbrev pub printed : Result (List ℕ) Misread → List ℕ
printed (Ok bytes) = bytes
printed (Err bad) = refusal_line bad

-- bytes over the first of a memory, the rest of it as it was
abbrev pub over : (bytes old : List ℕ) → List ℕ
over bytes old = bytes ++ drop (length bytes) old

-- the line of a refusal stands at the start of the memory, and the rest of it is as it was
pub record Written (bad : Misread) (old : List ℕ) (n : ℕ) (new : List ℕ) : Type 0 where
  pub within : n ≤ length old
  pub line : n ≡ length (refusal_line bad)
  pub written : new ≡ over (refusal_line bad) old

-- book, board and output memory
pub record Held (L : Type 0) : Type 0 where
  pub book : Contents L
  pub board : Meaning L
  pub out : List ℕ

-- the three together
abbrev pub holding : {L : Type 0} → Contents L → Meaning L → List ℕ → Held L
holding b m out = record { book = b; board = m; out = out }

module _ {L : Type 0} (k : Kind L) (input : List ℕ) (before : Held L) where
  -- the input is short enough, and is the text of this book, which the memory can hold
  pub record BookOfInput (b : Contents L) : Type 0 where
    pub short : length input ≤ input_room
    pub read : ReadBook k before.book.cells input before.book b

  -- the board has the settled labels of this book, of which no more are not none than it can hold, and they hold what every world says
  pub record LabelsOf (b : Contents L) (m : Meaning L) : Type 0 where
    pub size : m.size ≡ before.board.size
    pub capacity : m.capacity ≡ before.board.capacity
    pub enough : places b.sizes ≤ m.size
    pub few : Overfull k b.sizes b.sentences m.capacity → ⊥
    pub settled : SettledBoard k b.sizes b.sentences m
    pub meant : LabelsHoldWhatEveryWorldSays k b.sizes b.sentences (label_on k b.sizes m)

  -- the listing of the labels of the book that the input is, or the first refusal in this order; and what memory then holds
  pub data Answers : Result (List ℕ) Misread → (after : Held L) → Type 0 where
    too_long : input_room < length input → Answers (Err (outside_reading MemoryTooShort)) before
    bad_line :
        (bad : Misread) (b : Contents L) → length input ≤ input_room → RefusedText k before.book.cells input bad b
        → Answers (Err bad) (holding b before.board before.out)
    too_few_places :
        (b : Contents L) → BookOfInput b → before.board.size < places b.sizes
        → Answers (Err (outside_reading TooFewPlaces)) (holding b before.board before.out)
    too_many_labels :
        (b : Contents L) (m : Meaning L) → BookOfInput b → places b.sizes ≤ before.board.size
        → Overfull k b.sizes b.sentences before.board.capacity → Cleared k before.board m
        → Answers (Err (outside_reading BoardFull)) (holding b m before.out)
    listing_too_long :
        (b : Contents L) (m : Meaning L) → BookOfInput b → LabelsOf b m → length before.out < length (listing k b.sizes m)
        → Answers (Err (outside_reading MemoryTooShort)) (holding (marked b true) m (take (length before.out) (listing k b.sizes m)))
    listed :
        (b : Contents L) (m : Meaning L) → BookOfInput b → LabelsOf b m → length (listing k b.sizes m) ≤ length before.out
        → Answers (Ok (listing k b.sizes m)) (holding (marked b true) m (over (listing k b.sizes m) before.out))

  -- a listing was written, and its length answered
  pub record ListingWritten (n : ℕ) (after : Held L) : Type 0 where
    pub bytes : List ℕ
    pub answers : Answers (Ok bytes) after
    pub long : n ≡ length bytes
    pub within : n ≤ length before.out
    pub out : after.out ≡ over bytes before.out

  -- that, or the refusal was answered
  abbrev pub Tried : Result ℕ Misread → (after : Held L) → Type 0
  Tried (Ok n) after = ListingWritten n after
  Tried (Err bad) after = Answers (Err bad) after

-- the memory that a program hands over: the cells of its book, its board, and its output memory
pub record Memory (L : Type 0) : Type 0 where
  pub cells : List (Sentence L)
  pub board : Meaning L
  pub out : List ℕ

-- the three together
abbrev pub memory : {L : Type 0} → List (Sentence L) → Meaning L → List ℕ → Memory L
memory cells board out = record { cells = cells; board = board; out = out }

-- the size of a board that has a place for every fact of every book
abbrev pub largest_board : ℕ
largest_board = 34078720

-- the first n bytes of the output are what is printed: the answer to the input, on a blank book over the cells
pub record Prints {L : Type 0} (k : Kind L) (input : List ℕ) (before : Memory L) (n : ℕ) (after : Memory L) : Type 0 where
  pub answer : Result (List ℕ) Misread
  pub held : Held L
  pub answers : Answers k input (holding (blank_book (length before.cells)) before.board before.out) answer held
  pub out : after.out ≡ over (printed answer) held.out
  pub count : n ≡ length (printed answer)
  pub cells : take (length held.book.sentences) after.cells ≡ held.book.sentences
  pub board : after.board ≡ held.board
  -- on a largest board there is no refusal 7
  pub places_enough : largest_board ≤ before.board.size → (bad : Misread) → answer ≡ Err bad → bad.refusal ≢ TooFewPlaces

-- memory as a program sets it aside: 512 cells, and a largest board that can hold 2048 labels
pub record SetAside {L : Type 0} (m : Memory L) : Type 0 where
  pub cells : length m.cells ≡ 512
  pub size : m.board.size ≡ largest_board
  pub capacity : m.board.capacity ≡ 2048

-- the first n bytes of the output are what is printed of the stream's bytes, or of as many as show that they are too many, in such memory
pub record PrintsRead {L : Type 0} (k : Kind L) (stream rest : Option (List ℕ)) (old : List ℕ) (n : ℕ) (new : List ℕ) : Type 0 where
  pub input : List ℕ
  pub taken : Takes stream input (input_room + 1) rest
  pub before : Memory L
  pub after : Memory L
  pub room : SetAside before
  pub old_out : before.out ≡ old
  pub new_out : after.out ≡ new
  pub prints : Prints k input before n after

-- the bytes that a writer holds, where they are known, grow by what is so printed, over an output memory of 16384 bytes
pub record PrintsTo {L : Type 0} (k : Kind L) (stream rest held grown : Option (List ℕ)) : Type 0 where
  pub old : List ℕ
  pub n : ℕ
  pub new : List ℕ
  pub room : length old ≡ 16384
  pub prints : PrintsRead k stream rest old n new
  pub written : Appends held grown (take n new)
