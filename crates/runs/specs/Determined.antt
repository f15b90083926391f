-- A list of calls determines its answers and the account that it ends in, labels up to their number. Assumes nothing.
use Rattle.std.specs.Prelude.{◌≡◌, ℕ, List, [], ◌∷◌, map, Ok}
use Rattle.labels.specs.Kind.{Kind}
use Rattle.boards.specs.Meaning.{Meaning, Same}
use Rattle.books.specs.Contents.{Contents}
use Rattle.texts.specs.Lines.{numbered}
use Rattle.runs.specs.declared.Request.{Request}
use Rattle.runs.specs.Account.{Account, Fresh, Answer, labelled}
use Rattle.runs.specs.Law.{Chain}

module _ {L : Type 0} (k : Kind L) where
  -- two books that nothing tells apart: the labels of their sentences have the same numbers
  pub record SameBook (b c : Contents L) : Type 0 where
    pub sizes : c.sizes ≡ b.sizes
    pub sentences : map (numbered k) c.sentences ≡ map (numbered k) b.sentences
    pub settled : c.settled ≡ b.settled
    pub cells : c.cells ≡ b.cells

  -- two accounts that nothing tells apart: such books, and boards whose labels have the same numbers
  pub record Alike (a b : Account L) : Type 0 where
    pub book : SameBook a.book b.book
    pub board : Same k a.board b.board

  -- two answers that nothing tells apart: they are equal, or are labels of one number
  pub data AnswersAlike : Answer L → Answer L → Type 0 where
    same : {o : Answer L} → AnswersAlike o o
    one_number : {l m : L} → k.number l ≡ k.number m → AnswersAlike (labelled (Ok l)) (labelled (Ok m))

  -- the same of each answer of two lists
  abbrev pub AllAlike : List (Answer L) → List (Answer L) → Type 0
  AllAlike [] [] = Unit {0}
  AllAlike [] (p ∷ ps) = ⊥
  AllAlike (o ∷ os) [] = ⊥
  AllAlike (o ∷ os) (p ∷ ps) = AnswersAlike o p × AllAlike os ps

  -- a start is determined by the memory given, and what follows by the calls
  pub record Determined : Type 0 where
    pub start : (cells : ℕ) (board : Meaning L) (a b : Account L) → Fresh k cells board a → Fresh k cells board b → Alike a b
    pub calls :
        (qs : List (Request L)) (a b c d : Account L) (os ps : List (Answer L)) → Alike a b
        → Chain k a qs os c → Chain k b qs ps d → AllAlike os ps × Alike c d
