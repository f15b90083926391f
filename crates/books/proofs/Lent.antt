-- The cells that a book was over, once it is let go. Assumes nothing.
use Rattle.std.proofs.Common.{◌≡◌, ℕ, List, length, take, ap, ◌∙◌}
use Rattle.std.proofs.lemmas.List.{length-take, take_min}

take_again : {X : Type 0} (n : ℕ) (xs : List X) → take (length (take n xs)) xs ≡ take n xs
take_again n xs = ap (λ k. take k xs) (length-take n xs) ∙ take_min n xs

-- the cells given back are those that the book was over
pub cells_back : {X : Type 0} (n : ℕ) (xs back : List X) → back ≡ xs → take (length (take n xs)) back ≡ take n xs
cells_back n xs back is = ap (λ l. take (length (take n xs)) l) is ∙ take_again n xs
