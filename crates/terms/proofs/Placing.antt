-- Each fact in range has a place of its own below F, and each place below F is that of a fact in range. Assumes nothing.
use Rattle.std.proofs.Common.{◌≡◌, ℕ, zero, suc, ◌+◌, ◌-◌, ◌*◌, ◌/◌, ◌%◌, ◌<◌, ◌≤◌, false, T, eqb, ltb, sym, ap, ◌∙◌, ap₂, mod-lt, mul_assoc, mul_comm, div-lt_iff_lt-mul, mul-le-mul, div-add-mod', mul-add, arith, ltb-false, ltb-true, lt-ltb}
use native.Mathlib.Decide.{dec_lt}
use borrow.Author.Tests.{eqb-false}
use Rattle.std.proofs.lemmas.Nat.{mul-add-lt, div-mul-add, mod-mul-add}
use Rattle.std.proofs.lemmas.Bool.{and_from, and_parts, or_parts}
use Rattle.terms.proofs.Truths.{say, said}
use Rattle.terms.specs.declared.Sizes.{Sizes}
use Rattle.terms.specs.Places.{outside_limits, nodes, places, place, Fact, member, link, in_range, EachPlaceIsOfOneFact}

-- a fact of nodes, concepts and roles that there are
abbrev pub Within : Sizes → Fact → Type 0
Within z (member x B) = (x < nodes z) × (B < z.concepts)
Within z (link x r y) = (x < nodes z) × (r < z.roles) × (y < nodes z)

pub within_range : (z : Sizes) (f : Fact) → Within z f → T (in_range z f)
within_range z (member x B) h = say (and_from (ltb x (nodes z)) _ (lt-ltb _ _ h.0) (lt-ltb _ _ h.1))
within_range z (link x r y) h =
    say (and_from (ltb x (nodes z)) _ (lt-ltb _ _ h.0) (and_from (ltb r z.roles) _ (lt-ltb _ _ h.1) (lt-ltb _ _ h.2)))

pub range_within : (z : Sizes) (f : Fact) → T (in_range z f) → Within z f
range_within z (member x B) h =
    let p = and_parts (ltb x (nodes z)) _ (said (in_range z (member x B)) h) in (ltb-true _ _ p.0, ltb-true _ _ p.1)
range_within z (link x r y) h =
    let p = and_parts (ltb x (nodes z)) _ (said (in_range z (link x r y)) h) in
    let q = and_parts (ltb r z.roles) _ p.1 in
    (ltb-true _ _ p.0, ltb-true _ _ q.0, ltb-true _ _ q.1)

member_below : (z : Sizes) (x B : ℕ) → Within z (member x B) → place z (member x B) < nodes z * z.concepts
member_below z x B r = omega (arith, mul-add-lt x z.concepts B (nodes z) r.0 r.1, mul_comm (nodes z) z.concepts)

pub place_below : (z : Sizes) (f : Fact) → Within z f → place z f < places z
place_below z (member x B) r =
    let n : ℕ = nodes z in
    omega (arith, member_below z x B r, mul-add n z.concepts (z.roles * n))
place_below z (link x s y) r =
    let n : ℕ = nodes z in
    let row : x * z.roles + s < z.roles * n = mul-add-lt x z.roles s n r.0 r.1 in
    omega (arith, mul-add-lt (x * z.roles + s) n y (z.roles * n) row r.2, mul-add n z.concepts (z.roles * n))

same_row : (x y k b d : ℕ) → b < k → d < k → x * k + b ≡ y * k + d → x ≡ y
same_row x y k b d p q e = sym (div-mul-add x k b p) ∙ ap (λ n. n / k) e ∙ div-mul-add y k d q

same_column : (x y k b d : ℕ) → b < k → d < k → x * k + b ≡ y * k + d → b ≡ d
same_column x y k b d p q e = sym (mod-mul-add x k b p) ∙ ap (λ n. n % k) e ∙ mod-mul-add y k d q

pub place_same : (z : Sizes) (f g : Fact) → Within z f → Within z g → place z f ≡ place z g → f ≡ g
place_same z (member x B) (member y C) p q e =
    ap₂ member (same_row x y z.concepts B C p.1 q.1 e) (same_column x y z.concepts B C p.1 q.1 e)
place_same z (member x B) (link y s w) p q e = absurd (omega (arith, member_below z x B p))
place_same z (link x r w) (member y C) p q e = absurd (omega (arith, member_below z y C q))
place_same z (link x r y) (link x' r' y') p q e =
    let n : ℕ = nodes z in
    let inner : (x * z.roles + r) * n + y ≡ (x' * z.roles + r') * n + y' = omega arith in
    let row : x * z.roles + r ≡ x' * z.roles + r' = same_row (x * z.roles + r) (x' * z.roles + r') n y y' p.2 q.2 inner in
    let a : x ≡ x' = same_row x x' z.roles r r' p.1 q.1 row in
    let b : r ≡ r' = same_column x x' z.roles r r' p.1 q.1 row in
    let d : y ≡ y' = same_column (x * z.roles + r) (x' * z.roles + r') n y y' p.2 q.2 inner in
    λ i. link (a i) (b i) (d i)

-- p is the place of a fact in range
abbrev pub At : Sizes → ℕ → Type 0
At z p = (f : Fact) × Within z f × (place z f ≡ p)

pub at_place : (z : Sizes) → 0 < z.concepts → (p : ℕ) → p < places z → At z p
at_place z h p l = go (dec_lt p (nodes z * z.concepts))
  where
    go : Dec (p < nodes z * z.concepts) → At z p
    go (yes k) = (member (p / z.concepts) (p % z.concepts), ((div-lt_iff_lt-mul h).1 k, mod-lt p h), div-add-mod' p z.concepts)
    go (no k) =
        let c : ℕ = z.concepts in
        let m : ℕ = z.roles in
        let n : ℕ = nodes z in
        let q : ℕ = p - n * c in
        let split : n * (c + m * n) ≡ n * c + n * (m * n) = mul-add n c (m * n) in
        let assoc : n * m * n ≡ n * (m * n) = mul_assoc n m n in
        let few : q < n * m * n = omega (arith, split, assoc, l, k) in
        let some_node : 0 < n = omega (arith, h) in
        let low : q / n < n * m = (div-lt_iff_lt-mul some_node).1 few in
        let some_role : 0 < m = role m n low in
        let back : q / n / m * m + q / n % m ≡ q / n = div-add-mod' (q / n) m in
        let whole : q / n * n + q % n ≡ q = div-add-mod' q n in (
          link (q / n / m) (q / n % m) (q % n),
          ((div-lt_iff_lt-mul some_role).1 low, mod-lt (q / n) some_role, mod-lt q some_node),
          ap (λ a. n * c + a * n + q % n) back ∙ omega (arith, whole, k),
        )
      where
        role : (m n : ℕ) {a : ℕ} → a < n * m → 0 < m
        role zero n a = absurd (omega (arith, a))
        role (suc m) n a = omega arith

-- the limits, as numbers in order
pub record Limits (z : Sizes) : Type 0 where
  pub has_top : 0 < z.concepts
  pub concepts : z.concepts ≤ 512
  pub roles : z.roles ≤ 32
  pub units : z.individuals ≤ 512

pub limits : (z : Sizes) → outside_limits z ≡ false → Limits z
limits z e =
    let p = or_parts (eqb z.concepts 0) _ e in
    let q = or_parts (ltb 512 z.concepts) _ p.1 in
    let r = or_parts (ltb 32 z.roles) _ q.1 in
    let n : z.concepts ≡ 0 → ⊥ = eqb-false z.concepts 0 p.0 in
    record {
      has_top = omega (arith, n);
      concepts = ltb-false 512 z.concepts q.0;
      roles = ltb-false 32 z.roles r.0;
      units = ltb-false 512 z.individuals r.1;
    }

pub few_places : (z : Sizes) → Limits z → places z ≤ 34078720
few_places z l =
    let n : nodes z ≤ 1024 = omega (arith, l.concepts, l.units) in
    let row : z.roles * nodes z ≤ 32 * 1024 = mul-le-mul l.roles n in
    let cells : z.concepts + z.roles * nodes z ≤ 33280 = omega (arith, row, l.concepts) in
    mul-le-mul n cells

pub one_fact_each : EachPlaceIsOfOneFact
one_fact_each z e =
    let l = limits z e in
    record {
      few = few_places z l;
      below = λ f h. place_below z f (range_within z f h);
      apart = λ f g h h'. place_same z f g (range_within z f h) (range_within z g h');
      every = λ p h. let a = at_place z l.has_top p h in (a.0, within_range z a.0 a.1, a.2);
    }
