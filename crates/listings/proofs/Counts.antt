-- The items of each of some numbers counted up, written as far as they go. Assumes nothing.
use Rattle.std.proofs.Common.{◌≡◌, ℕ, zero, suc, ◌+◌, ◌-◌, ◌<◌, ◌≤◌, List, [], ◌∷◌, ◌++◌, Ok, Err, Result, sym, refl, ap, ◌∙◌, subst, arith}
use Rattle.std.specs.List.{flat_map}
use Rattle.std.proofs.lemmas.Grind.{flat_map-append}
use Rattle.std.proofs.lemmas.List.{append-nil}
use Rattle.terms.specs.declared.Refusal.{Refusal}
use Rattle.terms.specs.Lists.{counting}
use Rattle.output.specs.declared.Output.{Output}
use Rattle.output.specs.Puts.{Puts}
use Rattle.output.proofs.Putting.{puts_then, puts_cut}

-- the numbers in two parts
counting_parts : (i n more : ℕ) → counting i (n + more) ≡ counting i n ++ counting (i + n) more
counting_parts i zero more =
    let none : 0 + more ≡ more = omega arith in
    let here : i ≡ i + 0 = omega arith in
    ap (counting i) none ∙ ap (λ j. counting j more) here
counting_parts i (suc n) more =
    let all : suc n + more ≡ suc (n + more) = omega arith in
    let here : suc i + n ≡ i + suc n = omega arith in
    ap (counting i) all ∙ ap (λ z. i ∷ z) (counting_parts (suc i) n more ∙ ap (λ j. counting (suc i) n ++ counting j more) here)

module _ {X : Type 0} (items : ℕ → List X) where
  -- numbers that have no items
  no_items : (i n : ℕ) → ((j : ℕ) → i ≤ j → j < i + n → items j ≡ []) → flat_map items (counting i n) ≡ []
  no_items i zero none = refl
  no_items i (suc n) none =
      ap (λ z. z ++ flat_map items (counting (suc i) n)) (none i (omega arith) (omega arith))
      ∙ no_items (suc i) n (λ j l u. none j (omega arith) (omega arith))

module _ {X : Type 0} (items : ℕ → List X) (i : ℕ) where
  -- the items of the first numbers
  abbrev pub front : ℕ → List X
  front n = flat_map items (counting i n)

  front_parts : (n more : ℕ) → front (n + more) ≡ front n ++ flat_map items (counting (i + n) more)
  front_parts n more = ap (flat_map items) (counting_parts i n more) ∙ flat_map-append items (counting i n) (counting (i + n) more)

  -- numbers with no items in between
  front_skips : (n p : ℕ) → n ≤ p → ((j : ℕ) → i + n ≤ j → j < i + p → items j ≡ []) → front p ≡ front n
  front_skips n p le none =
      let split : p ≡ n + (p - n) = omega arith in
      ap front split ∙ front_parts n (p - n)
      ∙ ap (λ z. front n ++ z) (no_items items (i + n) (p - n) (λ j l u. none j l (omega arith))) ∙ append-nil (front n)

  front_more : (n p : ℕ) → n ≤ p → ((j : ℕ) → i + n ≤ j → j < i + p → items j ≡ []) → front (p + 1) ≡ front n ++ items (i + p)
  front_more n p le none =
      front_parts p 1 ∙ ap (λ z. front p ++ z) (append-nil (items (i + p))) ∙ ap (λ z. z ++ items (i + p)) (front_skips n p le none)

  module _ {old new : Output X} where
    -- past numbers with no items, the next that has some
    pub puts_next :
        {mid : Output X} {r : Result (Unit {0}) Refusal} (n p : ℕ) → n ≤ p → ((j : ℕ) → i + n ≤ j → j < i + p → items j ≡ [])
        → Puts old (front n) (Ok tt) mid → Puts mid (items (i + p)) r new → Puts old (front (p + 1)) r new
    puts_next n p le none = puts_then (front_more n p le none)

    -- past numbers with no items, the end
    pub puts_rest :
        {r : Result (Unit {0}) Refusal} (n p : ℕ) → n ≤ p → ((j : ℕ) → i + n ≤ j → j < i + p → items j ≡ []) → Puts old (front n) r new → Puts old (front p) r new
    puts_rest {r} n p le none = subst (λ z. Puts old z r new) (sym (front_skips n p le none))

    -- what was refused at an earlier number
    pub puts_front_cut : {e : Refusal} (n p : ℕ) → n ≤ p → Puts old (front n) (Err e) new → Puts old (front p) (Err e) new
    puts_front_cut n p le =
        let split : p ≡ n + (p - n) = omega arith in
        puts_cut (flat_map items (counting (i + n) (p - n))) (ap front split ∙ front_parts n (p - n))

-- the items of the next number, counted from 0
pub puts_counted :
    {X : Type 0} {old mid new : Output X} {r : Result (Unit {0}) Refusal} (items : ℕ → List X) (n : ℕ)
    → Puts old (front items 0 n) (Ok tt) mid → Puts mid (items n) r new → Puts old (front items 0 (n + 1)) r new
puts_counted {X} {old} {mid} {new} {r} items n before here =
    let next : n ≡ 0 + n = omega arith in
    puts_next items 0 n n (omega arith) (λ j low high. absurd (omega arith)) before (subst (λ j. Puts mid (items j) r new) next here)
