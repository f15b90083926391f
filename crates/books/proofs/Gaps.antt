-- A list whose gap was closed by copying what lies past it. Assumes nothing.
use Rattle.std.proofs.Common.{◌≡◌, ℕ, ◌+◌, ◌-◌, ◌<◌, ◌≤◌, List, ◌++◌, length, take, drop, sym, ◌∙◌, ap₂, arith, take-take, length-drop, add-one}
use Rattle.std.specs.List.{remove, copy_within}
use Rattle.std.proofs.lemmas.List.{drop-take}
use Rattle.std.proofs.lemmas.List.Edits.{take-paste}

-- the first `count` elements without the i-th
pub gap_closed :
    {X : Type 0} (xs : List X) (i count : ℕ) (new : List X) → i < count → count ≤ length xs → new ≡ copy_within xs (i + 1) count i
    → take (count - 1) new ≡ remove (take count xs) i
gap_closed xs i count new lt le is =
    let m : ℕ = count - (i + 1) in
    let moved : count - 1 ≡ i + m = omega arith in
    let whole : i + 1 + m ≡ count = omega arith in
    ap₂ take moved is
    ∙ take-paste xs i (drop (i + 1) xs) m (omega arith) (omega (arith, length-drop (i + 1) xs))
    ∙ ap₂ (λ front rest. front ++ rest) (sym (take-take i count xs (omega arith)))
    (sym (drop-take (i + 1) m xs) ∙ ap₂ (λ n k. drop n (take k xs)) (add-one i) whole)
