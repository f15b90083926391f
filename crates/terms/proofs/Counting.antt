-- How many of the first numbers pass a test, alone and held against how many pass another. Assumes nothing.
use Rattle.std.proofs.Common.{◌≡◌, ℕ, zero, suc, ◌+◌, ◌<◌, ◌≤◌, Bool, true, false, cond, sym, refl, ap, ◌∙◌, subst, ⊎_elim, arith}
use Rattle.std.proofs.lemmas.Bool.{cases_eq, cond-true, cond-false}
use Rattle.terms.specs.Lists.{count}

one_more : (s t : Bool) → (s ≡ true → t ≡ true) → cond {A = ℕ} s 1 0 ≤ cond {A = ℕ} t 1 0
one_more true t h = let e : ◌≡◌ {A = ℕ} (cond t 1 0) 1 = cond-true t 1 0 (h refl) in omega arith
one_more false t h = omega arith

one_most : (t : Bool) → cond {A = ℕ} t 1 0 ≤ 1
one_most true = omega arith
one_most false = omega arith

-- where each number that passes a passes b
pub count_more : (a b : ℕ → Bool) (n : ℕ) → ((p : ℕ) → p < n → a p ≡ true → b p ≡ true) → count a n ≤ count b n
count_more a b zero h = omega arith
count_more a b (suc n) h =
    omega (arith, count_more a b n (λ p l. h p (omega arith)), one_more (a n) (b n) (h n (omega arith)))

-- where besides some number passes b and not a
pub count_less :
    (a b : ℕ → Bool) (n i : ℕ) → ((p : ℕ) → p < n → a p ≡ true → b p ≡ true) → i < n → a i ≡ false → b i ≡ true → count a n < count b n
count_less a b zero i h l fails passes = absurd (omega arith)
count_less a b (suc n) i h l fails passes =
    ⊎_elim
    (λ (q : i ≡ n).
    let none : ◌≡◌ {A = ℕ} (cond (a n) 1 0) 0 = cond-false (a n) 1 0 (ap a (sym q) ∙ fails) in
    let one : ◌≡◌ {A = ℕ} (cond (b n) 1 0) 1 = cond-true (b n) 1 0 (ap b (sym q) ∙ passes) in
    omega (arith, count_more a b n (λ p l. h p (omega arith))))
    (λ (q : i ≡ n → ⊥).
    omega (arith, count_less a b n i (λ p l. h p (omega arith)) (omega arith) fails passes, one_more (a n) (b n) (h n (omega arith))))
    (cases_eq i n)

-- where at most the number t passes b and not a
pub count_one_more : (a b : ℕ → Bool) (t n : ℕ) → ((p : ℕ) → (p ≡ t → ⊥) → b p ≡ true → a p ≡ true) → count b n ≤ count a n + 1
count_one_more a b t zero h = omega arith
count_one_more a b t (suc n) h =
    ⊎_elim
    (λ (q : n ≡ t). omega (arith, count_more b a n (λ p l. h p (λ e. omega arith)), one_most (b n)))
    (λ (q : n ≡ t → ⊥). omega (arith, count_one_more a b t n h, one_more (b n) (a n) (h n q)))
    (cases_eq n t)

-- where no number from n on passes
pub count_past : (a : ℕ → Bool) (n m : ℕ) → n ≤ m → ((p : ℕ) → n ≤ p → a p ≡ false) → count a m ≤ count a n
count_past a n zero l h = omega arith
count_past a n (suc m) l h =
    ⊎_elim (λ (q : n ≡ suc m). subst (λ j. count a (suc m) ≤ count a j) (sym q) (omega arith))
    (λ (q : n ≡ suc m → ⊥).
    let none : ◌≡◌ {A = ℕ} (cond (a m) 1 0) 0 = cond-false (a m) 1 0 (h m (omega arith)) in
    omega (arith, count_past a n m (omega arith) h))
    (cases_eq n (suc m))

-- up to a larger number at least as many pass
pub count_longer : (test : ℕ → Bool) (n m : ℕ) → n ≤ m → count test n ≤ count test m
count_longer test n zero le = let e : n ≡ 0 = omega arith in subst (λ j. count test j ≤ 0) (sym e) (omega arith)
count_longer test n (suc m) le =
    ⊎_elim (λ (q : n ≡ suc m). subst (λ j. count test j ≤ count test (suc m)) (sym q) (omega arith))
    (λ (q : n ≡ suc m → ⊥). omega (arith, count_longer test n m (omega arith)))
    (cases_eq n (suc m))

pub count_at_most : (test : ℕ → Bool) (n : ℕ) → count test n ≤ n
count_at_most test zero = omega arith
count_at_most test (suc n) = omega (arith, count_at_most test n, one_most (test n))

-- a number that fails the test is not counted
pub count_below : (test : ℕ → Bool) (n p : ℕ) → p < n → test p ≡ false → count test n < n
count_below test zero p h fails = absurd (omega arith)
count_below test (suc n) p h fails =
    ⊎_elim
    (λ (e : p ≡ n). omega (arith, count_at_most test n, ap (λ b. cond {A = ℕ} b 1 0) (ap test (sym e) ∙ fails)))
    (λ (e : p ≡ n → ⊥). omega (arith, count_below test n p (omega arith) fails, one_most (test n)))
    (cases_eq p n)

pub count_none : (test : ℕ → Bool) (n : ℕ) → ((p : ℕ) → test p ≡ false) → count test n ≡ 0
count_none test zero fails = refl
count_none test (suc n) fails = omega (arith, count_none test n fails, ap (λ b. cond {A = ℕ} b 1 0) (fails n))

pub count_same : (test other : ℕ → Bool) (n : ℕ) → ((p : ℕ) → p < n → other p ≡ test p) → count other n ≡ count test n
count_same test other zero same = refl
count_same test other (suc n) same =
    omega (arith, count_same test other n (λ p h. same p (omega arith)), ap (λ b. cond {A = ℕ} b 1 0) (same n (omega arith)))

-- one number more passes
pub count_added :
    (test other : ℕ → Bool) (n p : ℕ)
    → p < n → test p ≡ false → other p ≡ true → ((q : ℕ) → (q ≡ p → ⊥) → other q ≡ test q) → count other n ≡ count test n + 1
count_added test other zero p h fails passes same = absurd (omega arith)
count_added test other (suc n) p h fails passes same =
    ⊎_elim
    (λ (e : p ≡ n).
    let before : count other n ≡ count test n = count_same test other n (λ q b. same q (λ r. omega arith)) in
    omega (arith, before, ap (λ b. cond {A = ℕ} b 1 0) (ap test (sym e) ∙ fails), ap (λ b. cond {A = ℕ} b 1 0) (ap other (sym e) ∙ passes)))
    (λ (e : p ≡ n → ⊥). omega (arith, count_added test other n p (omega arith) fails passes same, ap (λ b. cond {A = ℕ} b 1 0) (same n (λ r. e (sym r)))))
    (cases_eq p n)
