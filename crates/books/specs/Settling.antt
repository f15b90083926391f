-- What settling a book does, and what the label question answers. Assumes nothing.
use Rattle.std.specs.Prelude.{◌≡◌, not, ◌||◌, [], ◌∷◌, is_ok, Result, nat_le, nat_lt}
use Rattle.labels.specs.Kind.{Kind}
use Rattle.terms.specs.declared.Node.{Node}
use Rattle.terms.specs.declared.Concept.{Concept}
use Rattle.terms.specs.declared.Refusal.{Refusal}
use Rattle.terms.specs.declared.Refusal.TheVariants.{OutOfRange, NotSettled, TooFewPlaces}
use Rattle.terms.specs.Refusals.{Checked, Accepted}
use Rattle.terms.specs.Places.{nodes, places, member}
use Rattle.boards.specs.Meaning.{Meaning}
use Rattle.settling.specs.Settled.{label_on, BroughtOrShort}
use Rattle.books.specs.Contents.{Contents, marked}

module _ {L : Type 0} (k : Kind L) where
  -- settling a book: 7, which changes nothing, then 8; the book is then settled just when the call was accepted
  abbrev pub SettlesBook : (b : Contents L) (old : Meaning L) → Result (Unit {0}) Refusal → (after : Contents L) (new : Meaning L) → Type 0
  SettlesBook b old r after new =
      Checked ((nat_lt old.size (places b.sizes), TooFewPlaces) ∷ []) r ((after ≡ b) × (new ≡ old))
      (λ r. (after ≡ marked b (is_ok r)) × BroughtOrShort k b.sizes b.sentences old r new)

  -- the label question reads the place of (x, B) on the board given: 5, 6
  abbrev pub Labelled : Contents L → Meaning L → Node → Concept → Result L Refusal → Type 0
  Labelled b m x B r =
      Checked
      ((nat_le (nodes b.sizes) x.0 || nat_le b.sizes.concepts B.0, OutOfRange) ∷ ((not b.settled, NotSettled) ∷ []))
      r (Unit {0}) (Accepted (λ l. l ≡ label_on k b.sizes m (member x.0 B.0)))
