-- What reading and writing do. Assumes nothing.
use Rattle.std.specs.Prelude.{◌≡◌, ℕ, ◌+◌, true, false, List, [], ◌++◌, length, Ok, Err, Result, ◌≢◌}
use Rattle.labels.specs.Kind.{Kind}
use Rattle.terms.specs.declared.Sizes.{Sizes}
use Rattle.terms.specs.declared.Sentence.{Sentence}
use Rattle.terms.specs.declared.Refusal.{Refusal}
use Rattle.terms.specs.declared.Refusal.TheVariants.{SizesOutsideLimits, MalformedSentence, NoSuchLabel, BookFull, MalformedLine}
use Rattle.terms.specs.Refusals.{Fills}
use Rattle.terms.specs.Places.{outside_limits}
use Rattle.terms.specs.Sentences.{well_formed, holdable}
use Rattle.books.specs.Contents.{Contents, unsettled, blank_book}
use Rattle.texts.specs.declared.Misread.{Misread}
use Rattle.texts.specs.Lines.{sizes_header, sizes_line, sentences_header, sentence_line, text_of, sizes_fit, sentence_fits}

-- the text goes on with this line
abbrev pub Opens : List ℕ → (line rest : List ℕ) → Type 0
Opens text line rest = text ≡ line ++ rest

module _ {L : Type 0} (k : Kind L) (cells : ℕ) (text : List ℕ) where
  -- all lines so far are good: they are the text of a book that the memory can hold, and the rest comes after them
  pub record GoodSoFar (z : Sizes) (ss : List (Sentence L)) (rest : List ℕ) : Type 0 where
    pub can_be : holdable cells z ss ≡ true
    pub so_far : Opens text (text_of k z ss) rest

  -- the next line is that of a sentence for each of whose numbers its field has room
  pub record NextLine (z : Sizes) (ss : List (Sentence L)) (s : Sentence ℕ) : Type 0 where
    pub rest : List ℕ
    pub good : GoodSoFar z ss (sentence_line s ++ rest)
    pub fits : sentence_fits s ≡ true

  -- the refusal of the first bad or missing line, and that line's number; within a line 11 comes before 1 to 4, and these in order
  pub data BadLine : Refusal → ℕ → Type 0 where
    no_sizes_header : ((rest : List ℕ) → Opens text sizes_header rest → ⊥) → BadLine MalformedLine 1
    no_sizes :
        (rest : List ℕ) → Opens text sizes_header rest
        → ((z : Sizes) (more : List ℕ) → sizes_fit z ≡ true → Opens rest (sizes_line z) more → ⊥) → BadLine MalformedLine 2
    sizes_outside :
        (z : Sizes) (rest : List ℕ) → Opens text (sizes_header ++ sizes_line z) rest
        → sizes_fit z ≡ true → outside_limits z ≡ true → BadLine SizesOutsideLimits 2
    no_sentences_header :
        (z : Sizes) (rest : List ℕ) → Opens text (sizes_header ++ sizes_line z) rest
        → outside_limits z ≡ false → ((more : List ℕ) → Opens rest sentences_header more → ⊥) → BadLine MalformedLine 3
    no_sentence :
        (z : Sizes) (ss : List (Sentence L)) (rest : List ℕ) → GoodSoFar z ss rest → (rest ≢ [])
        → ((s : Sentence ℕ) (more : List ℕ) → sentence_fits s ≡ true → Opens rest (sentence_line s) more → ⊥)
        → BadLine MalformedLine (4 + length ss)
    malformed :
        (z : Sizes) (ss : List (Sentence L)) (s : Sentence ℕ) → NextLine z ss s
        → well_formed z s ≡ false → BadLine MalformedSentence (4 + length ss)
    no_label :
        (z : Sizes) (ss : List (Sentence L)) (s : Sentence ℕ) → NextLine z ss s
        → well_formed z s ≡ true → ((l : L) → k.number l ≢ s.label) → BadLine NoSuchLabel (4 + length ss)
    no_cell :
        (z : Sizes) (ss : List (Sentence L)) (s : Sentence ℕ) → NextLine z ss s
        → well_formed z s ≡ true → (l : L) → k.number l ≡ s.label → length ss ≡ cells → BadLine BookFull (4 + length ss)

  -- accepted: this is the text of the book that is then there, which the memory can hold
  pub record ReadBook (old new : Contents L) : Type 0 where
    pub can_be : holdable cells new.sizes new.sentences ≡ true
    pub its_text : text ≡ text_of k new.sizes new.sentences
    pub book : new ≡ unsettled old new.sizes new.sentences

  -- refused: no book that the memory can hold has this text; the first bad line is named, and the book is blank
  pub record RefusedText (bad : Misread) (new : Contents L) : Type 0 where
    pub no_book : (z : Sizes) (ss : List (Sentence L)) → holdable cells z ss ≡ true → text ≢ text_of k z ss
    pub first_bad : BadLine bad.refusal bad.line
    pub book : new ≡ blank_book cells

-- reading replaces a book's sizes and sentences
abbrev pub Reads : {L : Type 0} → Kind L → (old : Contents L) → List ℕ → Result (Unit {0}) Misread → (new : Contents L) → Type 0
Reads k old text (Ok u) new = ReadBook k old.cells text old new
Reads k old text (Err bad) new = RefusedText k old.cells text bad new

-- writing gives the text: 9
abbrev pub Writes : {L : Type 0} → Kind L → Contents L → (old : List ℕ) → Result ℕ Refusal → (new : List ℕ) → Type 0
Writes k b old r new = Fills (text_of k b.sizes b.sentences) old r new
