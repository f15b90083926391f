-- Numbers with a space before each: where each ends, and what follows it. Assumes nothing.
use Rattle.std.proofs.Common.{◌≡◌, ℕ, suc, ◌^◌, ◌<◌, Bool, true, false, List, [], ◌∷◌, ◌++◌, length, Some, None, decimal, sym, refl, ap, ◌∙◌, subst, arith}
use Rattle.std.specs.Bool.{Decides, then_some}
use Rattle.std.proofs.lemmas.List.{append_assoc, append-nil, append_cancel_left}
use Rattle.scripts.specs.Lines.{fields, WithinBits}
use Rattle.lines.specs.Texts.{SetOff}
use Rattle.scripts.specs.Reading.{ReadsNumbers}
use Rattle.lines.proofs.Numbers.{same_number}

set_off_fields : (ns : List ℕ) → SetOff 32 (fields ns)
set_off_fields [] = tt
set_off_fields (n ∷ ns) = refl

-- so many numbers of 64 bits, as those of a text
abbrev pub Are : ℕ → List ℕ → List ℕ → Type 0
Are count text ns = (length ns ≡ count) × WithinBits 64 ns × (text ≡ fields ns)

-- numbers are found and some are left: with those that the rest is they are those of the line, and where the rest is no such numbers the line is none
pub record Found (count : ℕ) (word line : List ℕ) (left : ℕ) (found rest : List ℕ) : Type 0 where
  pub some : (ns : List ℕ) → Are left rest ns → ReadsNumbers count word line (Some (found ++ ns))
  pub none : ((ns : List ℕ) → Are left rest ns → ⊥) → ReadsNumbers count word line None

pub found_none : (count : ℕ) (word line rest : List ℕ) → line ≡ word ++ rest → Found count word line count [] rest
found_none count word line rest h = record {
  some = λ ns are. (are.0, are.1, h ∙ ap (λ z. word ++ z) are.2);
  none = λ never ns many within e. never ns (many, within, append_cancel_left word rest (fields ns) (sym h ∙ e));
}

-- no number stands where the next should
pub stuck : (left : ℕ) (rest : List ℕ) → ((n : ℕ) (more : List ℕ) → n < 2 ^ 64 → SetOff 32 more → rest ≡ 32 ∷ (decimal n ++ more) → ⊥) → (ns : List ℕ) → Are (suc left) rest ns → ⊥
stuck left rest never [] are = omega (arith, are.0)
stuck left rest never (n ∷ ns) are = never n (fields ns) are.1.0 (set_off_fields ns) are.2

-- what follows the number that was read
rest_is : (left n : ℕ) (rest after : List ℕ) → n < 2 ^ 64 → SetOff 32 after → rest ≡ 32 ∷ (decimal n ++ after) → (ns : List ℕ) → Are (suc left) rest ns → (ms : List ℕ) × Are left after ms
rest_is left n rest after small off h [] are = absurd (omega (arith, are.0))
rest_is left n rest after small off h (m ∷ ms) are =
    let same = same_number n m after (fields ms) small are.1.0 off (set_off_fields ms)
    (append_cancel_left (32 ∷ []) (decimal n ++ after) (decimal m ++ fields ms) (sym h ∙ are.2)) in
    (ms, (omega (arith, are.0), are.1.1, same.1))

pub found_more : (count : ℕ) (word line : List ℕ) (left : ℕ) (found rest after : List ℕ) (n : ℕ) → Found count word line (suc left) found rest → n < 2 ^ 64 → SetOff 32 after → rest ≡ 32 ∷ (decimal n ++ after) → Found count word line left (found ++ (n ∷ [])) after
found_more count word line left found rest after n f small off h = record {
  some = λ ns are.
      subst (λ (z : List ℕ). ReadsNumbers count word line (Some z)) (sym (append_assoc found (n ∷ []) ns))
      (f.some (n ∷ ns) (omega (arith, are.0), (small, are.1), h ∙ ap (λ z. 32 ∷ (decimal n ++ z)) are.2));
  none = λ never. f.none (λ ns are.
      let r = rest_is left n rest after small off h ns are in
      never r.0 r.1);
}

-- nothing is left to find: the line is these numbers where nothing follows them
pub found_all : (count : ℕ) (word line found rest : List ℕ) (ends : Bool) → Found count word line 0 found rest → Decides ends (rest ≡ []) → ReadsNumbers count word line (then_some ends found)
found_all count word line found rest true f d =
    subst (λ (z : List ℕ). ReadsNumbers count word line (Some z)) (append-nil found) (f.some [] (refl, tt, d.0 refl))
found_all count word line found rest false f d = f.none go
  where
    go : (ns : List ℕ) → Are 0 rest ns → ⊥
    go [] are = let is = d.1 are.2 in cc
    go (n ∷ ns) are = omega (arith, are.0)

-- the numbers of a line are determined
pub same_numbers : (ns ms : List ℕ) → length ns ≡ length ms → WithinBits 64 ns → WithinBits 64 ms → fields ns ≡ fields ms → ns ≡ ms
same_numbers [] [] l p q h = refl
same_numbers [] (m ∷ ms) l p q h = absurd (omega (arith, l))
same_numbers (n ∷ ns) [] l p q h = absurd (omega (arith, l))
same_numbers (n ∷ ns) (m ∷ ms) l p q h =
    let same = same_number n m (fields ns) (fields ms) p.0 q.0 (set_off_fields ns) (set_off_fields ms)
    (append_cancel_left (32 ∷ []) (decimal n ++ fields ns) (decimal m ++ fields ms) h) in
    ap (λ z. z ∷ ns) same.0 ∙ ap (λ zs. m ∷ zs) (same_numbers ns ms (omega (arith, l)) p.1 q.1 same.1)

-- what was read is what any such line holds
pub only_these : (count : ℕ) (word line ns ms : List ℕ) → ReadsNumbers count word line (Some ns) → length ms ≡ count → WithinBits 64 ms → line ≡ word ++ fields ms → ns ≡ ms
only_these count word line ns ms read many within e =
    same_numbers ns ms (read.0 ∙ sym many) read.1 within (append_cancel_left word (fields ns) (fields ms) (sym read.2 ∙ e))
