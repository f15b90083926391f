-- That reading what was written gives the same book. Assumes nothing.
use Rattle.std.specs.Prelude.{◌≡◌, ℕ, true, false, List, map, take, Ok, Result}
use Rattle.labels.specs.Kind.{Kind}
use Rattle.terms.specs.Sentences.{holdable}
use Rattle.books.specs.Contents.{Contents}
use Rattle.texts.specs.declared.Misread.{Misread}
use Rattle.texts.specs.Lines.{numbered}
use Rattle.texts.specs.Texts.{Reads, Writes}

module _ {L : Type 0} (k : Kind L) where
  -- the book read is the one that was written
  pub record ReadAgain (written old : Contents L) (r : Result (Unit {0}) Misread) (new : Contents L) : Type 0 where
    -- the text is accepted
    pub accepted : r ≡ Ok tt
    -- the three sizes are those written
    pub sizes : new.sizes ≡ written.sizes
    -- so are the sentences, in order, each label by its number: labels with one number need not be one value
    pub sentences : map (numbered k) new.sentences ≡ map (numbered k) written.sentences
    -- the book is not settled, whether or not the one written was
    pub fresh : new.settled ≡ false
    -- it has the cells that it had before
    pub over : new.cells ≡ old.cells

  -- what writing put into a memory is read back as the same book, wherever the cells can hold that book
  abbrev pub ReadsBack : Type 0
  ReadsBack =
      (written old new : Contents L) (before after : List ℕ) (n : ℕ) (r : Result (Unit {0}) Misread) → Writes k written before (Ok n) after
      → holdable old.cells written.sizes written.sentences ≡ true → Reads k old (take n after) r new → ReadAgain written old r new
