-- A number in a text: where it ends, and what follows it. Assumes nothing.
use Rattle.std.proofs.Common.{◌≡◌, ℕ, ◌^◌, ◌<◌, ◌≤◌, Bool, true, false, List, [], ◌∷◌, ◌++◌, length, get_or, take, decimal, sym, refl, ap, ◌∙◌, subst, ⊎_elim, arith}
use Rattle.std.specs.Bool.{Decides, then_some}
use Rattle.std.specs.Borrow.{Bor}
use Rattle.std.specs.List.{AllByRecursion}
use Rattle.std.specs.Str.Parse.{digits_value}
use Rattle.std.proofs.ByRecursion.{All-get_or}
use Rattle.std.proofs.Math.Seq.{take-append_seam}
use Rattle.std.proofs.lemmas.Fmt.{digits_decimal, digits_value-decimal, decimal-digits_value, decimal_injective, decimal_nonempty, decimal_digit, first_decimal}
use Rattle.std.proofs.lemmas.List.{append_cancel_left, length-append}
use Rattle.std.proofs.lemmas.List.Prefix.{front_reads}
use Rattle.std.proofs.lemmas.Str.Parse.{digits_value-take-le}
use Rattle.std.proofs.lemmas.Bool.{cases_eq, cases_lt}
use Rattle.lines.specs.Texts.{SetOff}
use Rattle.lines.specs.Numbers.{Digit, PastDigits, NumberAt, ReadsFirst}
use Rattle.lines.proofs.Digits.{own, Begun}

pub heads : (x y : ℕ) (xs ys : List ℕ) → ◌≡◌ {A = List ℕ} (x ∷ xs) (y ∷ ys) → (x ≡ y) × (xs ≡ ys)
heads x y xs ys h = (cc, cc)

-- where digits stand in two fronts and begin neither rest, the fronts and the rests are one
told_apart : (ds xs es ys : List ℕ) → AllByRecursion Digit ds → AllByRecursion Digit es → PastDigits xs → PastDigits ys → ds ++ xs ≡ es ++ ys → (ds ≡ es) × (xs ≡ ys)
told_apart [] xs [] ys p q u v h = (refl, h)
told_apart [] xs (e ∷ es) ys p q u v h = absurd (subst PastDigits h u q.0)
told_apart (d ∷ ds) xs [] ys p q u v h = absurd (subst PastDigits (sym h) v p.0)
told_apart (d ∷ ds) xs (e ∷ es) ys p q u v h =
    let t = heads d e (ds ++ xs) (es ++ ys) h in
    let r = told_apart ds xs es ys p.1 q.1 u v t.1 in
    (ap (λ z. z ∷ ds) t.0 ∙ ap (λ zs. e ∷ zs) r.0, r.1)

-- a number and what follows its digits are determined
pub same_start : (n m : ℕ) (xs ys : List ℕ) → n < 2 ^ 64 → m < 2 ^ 64 → PastDigits xs → PastDigits ys → decimal n ++ xs ≡ decimal m ++ ys → (n ≡ m) × (xs ≡ ys)
same_start n m xs ys l k u v h =
    let t = told_apart (decimal n) xs (decimal m) ys (digits_decimal own n l) (digits_decimal own m k) u v h in
    (decimal_injective n m l k t.0, t.1)

pub past_space : (xs : List ℕ) → SetOff 32 xs → PastDigits xs
past_space [] u = tt
past_space (x ∷ xs) u = λ d. omega (arith, u, d.0)

pub same_number : (n m : ℕ) (xs ys : List ℕ) → n < 2 ^ 64 → m < 2 ^ 64 → SetOff 32 xs → SetOff 32 ys → decimal n ++ xs ≡ decimal m ++ ys → (n ≡ m) × (xs ≡ ys)
same_number n m xs ys l k u v = same_start n m xs ys l k (past_space xs u) (past_space ys v)

-- a number after a space, by whether a space sets off the rest
pub set_off_number :
    (most n : ℕ) (text : List ℕ) (rest : Bor (List ℕ)) (is : Bool) → most < 2 ^ 64 → n ≤ most → PastDigits rest.now → text ≡ 32 ∷ (decimal n ++ rest.now)
    → Decides is (SetOff 32 rest.now) → ReadsFirst most text (then_some is (n, rest))
set_off_number most n text rest true l small past h d = (small, d.0 refl, h)
set_off_number most n text rest false l small past h d = λ m more k off e.
    let same = same_start n m rest.now more (omega arith) (omega arith) past (past_space more off)
    (append_cancel_left (32 ∷ []) (decimal n ++ rest.now) (decimal m ++ more) (sym h ∙ e)) in
    let is = d.1 (subst (SetOff 32) (sym same.1) off) in cc

-- where digits begin a text that a number begins, the number's digits go on after them
longer : (ds xs es ys : List ℕ) → AllByRecursion Digit ds → PastDigits ys → ds ++ xs ≡ es ++ ys → (more : List ℕ) × (es ≡ ds ++ more)
longer [] xs es ys p v h = (es, refl)
longer (d ∷ ds) xs [] ys p v h = absurd (subst PastDigits (sym h) v p.0)
longer (d ∷ ds) xs (e ∷ es) ys p v h =
    let t = heads d e (ds ++ xs) (es ++ ys) h in
    let r = longer ds xs es ys p.1 v t.1 in
    (r.0, ap (λ z. z ∷ es) (sym t.0) ∙ ap (λ zs. d ∷ zs) r.1)

-- digits that write 2 ^ 64 or more begin no number of 64 bits
pub too_large : (text rest : List ℕ) (value : ℕ) → Begun text rest value → 2 ^ 64 ≤ value → (n : ℕ) (more : List ℕ) → n < 2 ^ 64 → PastDigits more → text ≡ decimal n ++ more → ⊥
too_large text rest value b large n more l u h =
    let on = longer b.digits rest (decimal n) more b.only u (sym b.here ∙ h) in
    let front : take (length b.digits) (decimal n) ≡ b.digits = ap (take (length b.digits)) on.1 ∙ take-append_seam b.digits on.0 in
    omega (arith, large, b.worth, ap (digits_value 10) front, digits_value-take-le 10 (decimal n) (length b.digits) (omega arith), digits_value-decimal own n l)

-- a zero with a digit after it begins no number
second : (n : ℕ) (text more : List ℕ) → n ≡ 0 → PastDigits more → text ≡ decimal n ++ more → 1 < length text → Digit (get_or text 1 0) → ⊥
second n text [] z u h two d = omega (arith, two, ap length h, length-append (decimal n) [], ap (λ k. length (decimal k)) z, ap length (decimal_digit 0 (omega arith)))
second n text (m ∷ more) z u h two d =
    let front : text ≡ 48 ∷ (m ∷ more) = h ∙ ap (λ k. decimal k ++ (m ∷ more)) z ∙ ap (λ ds. ds ++ (m ∷ more)) (decimal_digit 0 (omega arith)) in
    u (subst (λ t. Digit (get_or t 1 0)) front d)

pub padded : (n : ℕ) (text more : List ℕ) → n < 2 ^ 64 → PastDigits more → text ≡ decimal n ++ more → (1 < length text) × (get_or text 0 0 ≡ 48) × Digit (get_or text 1 0) → ⊥
padded n text more l u h p = ⊎_elim
    (λ (z : n ≡ 0). second n text more z u h p.0 p.2)
    (λ (z : n ≡ 0 → ⊥). omega (arith, p.1, front_reads 0 text (decimal n) more h 0 (decimal_nonempty n l), first_decimal n (omega arith) l))
    (cases_eq n 0)

-- the digits of a text as far as they go, with no zero before others: its number, if there are some and they write no more than the limit
module _ (most : ℕ) (text : List ℕ) (rest : Bor (List ℕ)) (value : ℕ) (fits : most < 2 ^ 64) (b : Begun text rest.now value) (past : PastDigits rest.now) where
  pub number_found : ((1 < length text) × (get_or text 0 0 ≡ 48) × Digit (get_or text 1 0) → ⊥) → length rest.now < length text → value ≤ most → text ≡ decimal value ++ rest.now
  number_found plain some small =
      let long = ap length b.here ∙ length-append b.digits rest.now in
      let read = front_reads 0 text b.digits rest.now b.here in
      let alone : get_or b.digits 0 0 ≡ 48 → length b.digits ≡ 1 = λ z. ⊎_elim
      (λ (l : 1 < length b.digits). absurd (plain (omega (arith, long), read 0 (omega arith) ∙ z, subst Digit (sym (read 1 l)) (All-get_or Digit b.digits 1 0 l b.only))))
      (λ (l : length b.digits ≤ 1). omega (arith, long, some))
      (cases_lt 1 (length b.digits)) in
      let whole = decimal-digits_value own b.digits b.only (omega (arith, long, some)) alone (omega (arith, b.worth)) in
      b.here ∙ ap (λ ds. ds ++ rest.now) (sym (ap decimal b.worth ∙ whole))

  pub number_there : (n : ℕ) (more : List ℕ) → n ≤ most → PastDigits more → text ≡ decimal n ++ more → (length rest.now < length text) × (value ≤ most)
  number_there n more small u h =
      let t = told_apart b.digits rest.now (decimal n) more b.only (digits_decimal own n (omega arith)) past u (sym b.here ∙ h) in
      let worth : value ≡ n = b.worth ∙ ap (digits_value 10) t.0 ∙ digits_value-decimal own n (omega arith) in
      (omega (arith, ap length b.here, length-append b.digits rest.now, ap length t.0, decimal_nonempty n (omega arith)), omega (arith, worth))

  pub number_read :
      ((1 < length text) × (get_or text 0 0 ≡ 48) × Digit (get_or text 1 0) → ⊥) → (is : Bool) → Decides is ((length rest.now < length text) × (value ≤ most)) → NumberAt most text (then_some is (value, rest))
  number_read plain true d = let h = d.0 refl in (h.1, past, number_found plain h.0 h.1)
  number_read plain false d = λ n more small u h. let is = d.1 (number_there n more small u h) in cc
