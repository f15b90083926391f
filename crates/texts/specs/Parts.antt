-- What the parts of reading do: the lines before the sentences, one sentence, and all. Assumes nothing.
use Rattle.std.specs.Prelude.{◌≡◌, ℕ, ◌+◌, ◌<◌, ◌≤◌, true, false, List, [], ◌∷◌, ◌++◌, length, Ok, Err, Result, ◌≢◌}
use Rattle.std.specs.Borrow.{Bor}
use Rattle.labels.specs.Kind.{Kind}
use Rattle.terms.specs.declared.Sizes.{Sizes}
use Rattle.terms.specs.declared.Sentence.{Sentence}
use Rattle.terms.specs.declared.Refusal.{Refusal}
use Rattle.terms.specs.declared.Refusal.TheVariants.{MalformedSentence, NoSuchLabel, BookFull, MalformedLine}
use Rattle.terms.specs.Sentences.{well_formed}
use Rattle.books.specs.Contents.{Contents, unsettled}
use Rattle.texts.specs.declared.Misread.{Misread}
use Rattle.texts.specs.Lines.{sentence_line, sentence_fits, numbered}
use Rattle.texts.specs.Texts.{Opens, GoodSoFar, BadLine, ReadBook}

module _ {L : Type 0} (k : Kind L) where
  -- the book holds what the lines so far say, it is not settled, and the rest comes after these lines
  pub record SoFar (cells : ℕ) (text rest : List ℕ) (new : Contents L) : Type 0 where
    pub good : GoodSoFar k cells text new.sizes new.sentences rest
    pub fresh : new.settled ≡ false
    pub over : new.cells ≡ cells

  -- the first bad line is named, and the book is over as many cells as before
  pub record Stopped (cells : ℕ) (text : List ℕ) (bad : Misread) (new : Contents L) : Type 0 where
    pub first_bad : BadLine k cells text bad.refusal bad.line
    pub over : new.cells ≡ cells

  -- the sizes are read, there is no sentence yet, and what follows the first three lines is left
  pub record SizesRead (cells : ℕ) (text rest : List ℕ) (new : Contents L) : Type 0 where
    pub so_far : SoFar cells text rest new
    pub none_yet : new.sentences ≡ []
    pub shorter : 4 + length rest ≤ length text

  -- the first three lines are read, or one of them is bad
  abbrev pub ReadsSizes : (old : Contents L) → List ℕ → Result (Bor (List ℕ)) Misread → (new : Contents L) → Type 0
  ReadsSizes old text (Ok rest) new = SizesRead old.cells text rest.now new
  ReadsSizes old text (Err bad) new = Stopped old.cells text bad new

  -- a sentence by its label's number cannot be entered after `count` others: 2, 3, 4 in this order
  pub data Unfit (z : Sizes) (cells count : ℕ) (s : Sentence ℕ) : Refusal → Type 0 where
    ill_formed : well_formed z s ≡ false → Unfit z cells count s MalformedSentence
    unlabelled : well_formed z s ≡ true → ((l : L) → k.number l ≢ s.label) → Unfit z cells count s NoSuchLabel
    full : well_formed z s ≡ true → (l : L) → k.number l ≡ s.label → cells ≤ count → Unfit z cells count s BookFull

  -- a sentence with these numbers is entered
  pub record Appended (old : Contents L) (s : Sentence ℕ) (new : Contents L) : Type 0 where
    pub sentence : Sentence L
    pub same : numbered k sentence ≡ s
    pub formed : well_formed old.sizes sentence ≡ true
    pub room : length old.sentences < old.cells
    pub book : new ≡ unsettled old old.sizes (old.sentences ++ (sentence ∷ []))

  -- a sentence by its label's number is entered, or it cannot be and the book is unchanged
  abbrev pub Enters : (old : Contents L) → Sentence ℕ → Result (Unit {0}) Refusal → (new : Contents L) → Type 0
  Enters old s (Ok u) new = Appended old s new
  Enters old s (Err e) new = Unfit old.sizes old.cells (length old.sentences) s e × (new ≡ old)

  -- the next line is no sentence's, or it is that of a sentence that cannot be entered
  pub data BadSentence (z : Sizes) (cells count : ℕ) (text : List ℕ) : Refusal → Type 0 where
    unlike :
        ((s : Sentence ℕ) (more : List ℕ) → sentence_fits s ≡ true → Opens text (sentence_line s) more → ⊥)
        → BadSentence z cells count text MalformedLine
    unfit :
        (s : Sentence ℕ) (more : List ℕ) (e : Refusal) → sentence_fits s ≡ true → Opens text (sentence_line s) more
        → Unfit z cells count s e → BadSentence z cells count text e

  -- the next line's sentence is entered
  pub record NextSentence (old : Contents L) (text rest : List ℕ) (new : Contents L) : Type 0 where
    pub line : Sentence ℕ
    pub opened : Opens text (sentence_line line) rest
    pub shorter : length rest < length text
    pub entered : Appended old line new

  -- the next line's sentence is entered and the rest is left, or the line is bad and the book is unchanged
  abbrev pub ReadsSentence : (old : Contents L) → List ℕ → Result (Bor (List ℕ)) Refusal → (new : Contents L) → Type 0
  ReadsSentence old text (Ok rest) new = NextSentence old text rest.now new
  ReadsSentence old text (Err e) new = BadSentence old.sizes old.cells (length old.sentences) text e × (new ≡ old)

  -- the whole text is read, or reading stopped at its first bad line
  abbrev pub Loads : (old : Contents L) → List ℕ → Result (Unit {0}) Misread → (new : Contents L) → Type 0
  Loads old text (Ok u) new = ReadBook k old.cells text old new
  Loads old text (Err bad) new = Stopped old.cells text bad new
