-- The listing of a book's labels, byte by byte, and what listing does. Assumes nothing.
use Rattle.std.specs.Prelude.{◌≡◌, ℕ, ◌-◌, Bool, true, false, not, List, [], ◌∷◌, ◌++◌, codes, Result}
use Rattle.std.specs.List.{flat_map}
use Rattle.labels.specs.Kind.{Kind, some_view}
use Rattle.terms.specs.declared.Sizes.{Sizes}
use Rattle.terms.specs.declared.Refusal.{Refusal}
use Rattle.terms.specs.declared.Refusal.TheVariants.{NotSettled}
use Rattle.terms.specs.Lists.{counting}
use Rattle.terms.specs.Places.{nodes, member}
use Rattle.terms.specs.Refusals.{Checked, Fills}
use Rattle.boards.specs.Meaning.{Meaning}
use Rattle.settling.specs.Settled.{label_on}
use Rattle.books.specs.Contents.{Contents}
use Rattle.texts.specs.Lines.{values}

-- the line that names the columns of a listing
abbrev pub listing_header : List ℕ
listing_header = codes "node concept label" ++ (10 ∷ [])

-- the line of one label; none has no line
abbrev pub label_line : (shown : Bool) → (x B number : ℕ) → List ℕ
label_line true x B number = values x (B ∷ (number ∷ []))
label_line false x B number = []

module _ {L : Type 0} (k : Kind L) where
  -- the line of a node and a concept
  abbrev pub line_for : Sizes → Meaning L → (x B : ℕ) → List ℕ
  line_for z m x B = let l : L = label_on k z m (member x B) in label_line (some_view k l) x B (k.number l)

  -- the lines of a node: the concepts other than 0, rising
  abbrev pub node_lines : Sizes → Meaning L → (x : ℕ) → List ℕ
  node_lines z m x = flat_map (line_for z m x) (counting 1 (z.concepts - 1))

  -- the listing: each label that is not none, by node, then concept, concept 0 left out
  abbrev pub listing : Sizes → Meaning L → List ℕ
  listing z m = listing_header ++ flat_map (node_lines z m) (counting 0 (nodes z))

  -- listing gives the labels on the board given: 6, 9
  abbrev pub Lists : Contents L → Meaning L → (old : List ℕ) → Result ℕ Refusal → (new : List ℕ) → Type 0
  Lists b m old r new = Checked ((not b.settled, NotSettled) ∷ []) r (new ≡ old) (λ r. Fills (listing b.sizes m) old r new)
