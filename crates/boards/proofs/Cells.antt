-- What a put and a search do over the cells of a dense board. Assumes nothing.
use Rattle.std.proofs.Common.{◌≡◌, ℕ, zero, suc, [], ◌∷◌, refl, ◌<◌, ◌≤◌, false, min, not, eqb, List, length, get_or, set, Some, None, Option, Ok, ap, ⊎_elim, ◌∙◌, arith}
use Rattle.std.proofs.lemmas.List.{length-set, get_or_past, get_or-set_same, get_or-set_other}
use Rattle.std.specs.List.{FoldsTo}
use Rattle.std.specs.Option.{MatchOption}
use Rattle.std.proofs.lemmas.Bool.{cases_lt}
use Rattle.labels.specs.Kind.{Kind, Lawful, some_view}
use Rattle.boards.specs.Meaning.{NextSome, Put}
use Rattle.boards.specs.Dense.{cells_meaning}
use Rattle.boards.proofs.Ranges.{IsSome, IsNone}
use Rattle.boards.proofs.Puts.{put_joined, never_full}

module _ {L : Type 0} (k : Kind L) where
  pub put_cell :
      (old new : List L) (place : ℕ) (t : L)
      → place < length old → new ≡ set old place (k.either (get_or old place k.none) t)
      → Put k (cells_meaning k old) place t (Ok tt) (cells_meaning k new)
  put_cell old new place t inside is =
      let joined : L = k.either (get_or old place k.none) t in
      let same_length : length new ≡ length old = ap length is ∙ length-set old place joined in
      put_joined k (cells_meaning k old) place t (cells_meaning k new) inside (never_full k (cells_meaning k old) place t (omega arith) inside) (record {
        size = same_length;
        capacity = same_length;
        here = ap (λ cells. k.number (get_or cells place k.none)) is ∙ ap k.number (get_or-set_same old place joined k.none inside);
        elsewhere = λ p other. ap (λ cells. k.number (get_or cells p k.none)) is ∙ ap k.number (get_or-set_other old place p joined k.none other);
      })

  -- past the cells every place is none
  pub none_past : Lawful k → (cells : List L) (p : ℕ) → length cells ≤ p → some_view k (get_or cells p k.none) ≡ false
  none_past laws cells p past = ap (some_view k) (get_or_past cells p k.none past) ∙ ap (λ n. not (eqb n 0)) laws.none_number

  -- what a search of the cells finds is the next that is not none: past the cells every place is
  pub next_in_cells :
      Lawful k → (cells : List L) (from to end : ℕ) → end ≡ min to (length cells) → (r : Option ℕ)
      → MatchOption r ((q : ℕ) → from ≤ q → q < end → IsNone k (cells_meaning k cells) q)
      (λ p. (from ≤ p) × (p < end) × IsSome k (cells_meaning k cells) p × ((q : ℕ) → from ≤ q → q < p → IsNone k (cells_meaning k cells) q))
      → NextSome k (cells_meaning k cells) from to r
  next_in_cells laws cells from to end is (Some p) found = (found.0, omega (arith, is, found.1), found.2, found.3)
  next_in_cells laws cells from to end is None none = λ q low high.
      ⊎_elim (λ (inside : q < length cells). none q low (omega (arith, is))) (none_past laws cells q) (cases_lt q (length cells))

-- cells that were each written none hold none
pub filled_none : {F L : Type 0} (none : L) (R : F → L → F → Type 0) → ((f : F) (l : L) (g : F) → R f l g → l ≡ none) → (cells : List L) (f last : F) → FoldsTo R f cells last → (p : ℕ) → get_or cells p none ≡ none
filled_none none R each [] f last ran p = refl
filled_none none R each (l ∷ cells) f last ran zero = each f l ran.0 ran.1
filled_none none R each (l ∷ cells) f last ran (suc p) = filled_none none R each cells ran.0 last ran.2 p
