-- The first place of a range that is not none. Assumes nothing.
use Rattle.std.proofs.Common.{◌≡◌, ℕ, ◌<◌, ◌≤◌, true, false, Some, None, Option}
use Rattle.std.specs.Option.{MatchOption}
use Rattle.labels.specs.Kind.{Kind, some_view}
use Rattle.boards.specs.Meaning.{Meaning, NextSome}

module _ {L : Type 0} (k : Kind L) (m : Meaning L) where
  -- the place is not none, or is none
  abbrev pub IsSome : ℕ → Type 0
  IsSome p = some_view k (m.label p) ≡ true

  abbrev pub IsNone : ℕ → Type 0
  IsNone p = some_view k (m.label p) ≡ false

  -- what a search of a range finds is the next that is not none
  pub next_in_range :
      (from to : ℕ) (r : Option ℕ)
      → MatchOption r ((q : ℕ) → from ≤ q → q < to → IsNone q) (λ p. (from ≤ p) × (p < to) × IsSome p × ((q : ℕ) → from ≤ q → q < p → IsNone q))
      → NextSome k m from to r
  next_in_range from to (Some p) found = found
  next_in_range from to None none = none
