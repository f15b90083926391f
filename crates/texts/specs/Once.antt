-- That a text has one first bad line at most. Assumes nothing.
use Rattle.std.specs.Prelude.{◌≡◌, ℕ, List}
use Rattle.labels.specs.Kind.{Kind}
use Rattle.terms.specs.declared.Refusal.{Refusal}
use Rattle.texts.specs.Texts.{BadLine}

-- the refusal and the number of the first bad line are determined by the text and the number of cells
abbrev pub OneBadLine : {L : Type 0} → Kind L → Type 0
OneBadLine k =
    (cells : ℕ) (text : List ℕ) (e f : Refusal) (i j : ℕ) → BadLine k cells text e i → BadLine k cells text f j → (e ≡ f) × (i ≡ j)
