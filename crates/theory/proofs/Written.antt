-- A description is read back from its records, and its records are in order.
use Rattle.std.proofs.Common.{◌≡◌, ℕ, zero, suc, ◌+◌, ◌<◌, ◌≤◌, max, Bool, true, false, cond, eqb, ltb, leb, ◌⊎◌, List, [], ◌∷◌, sym, refl, ap, ◌∙◌, subst, ap₂, inl, inr, arith, le-ltb, lt-ltb, eq-eqb, ne_eqb, le-leb, leb-true}
use native.Mathlib.Decide.{dec_lt, ℕ_discrete}
use Rattle.std.proofs.lemmas.Bool.{and_parts, and_from}
use Rattle.terms.specs.declared.Record.{Record}
use Rattle.terms.specs.Sentences.{stepwise, list_role_depth}
use Rattle.theory.specs.Description.{Description, done, name, some, role_depth}
use Rattle.theory.specs.Records.{OneToOne, placed, made_at, written, records_of, description_of}

-- the rules of depth and kind, as numbers in order
abbrev Well : ℕ → List Record → Type 0
Well most [] = Unit {0}
Well most (r ∷ l) = (r.depth ≤ most) × (r.kind ≤ 1) × Well (r.depth + r.kind) l

step_well : (most : ℕ) (l : List Record) → stepwise most l ≡ true → Well most l
step_well most [] h = tt
step_well most (r ∷ l) h =
    let p = and_parts (leb r.depth most) _ h in
    let q = and_parts (leb r.kind 1) _ p.1 in
    (leb-true r.depth most p.0, leb-true r.kind 1 q.0, step_well (r.depth + r.kind) l q.1)

well_step : (most : ℕ) (l : List Record) → Well most l → stepwise most l ≡ true
well_step most [] w = refl
well_step most (r ∷ l) w =
    and_from (leb r.depth most) _ (le-leb r.depth most w.0)
    (and_from (leb r.kind 1) _ (le-leb r.kind 1 w.1) (well_step (r.depth + r.kind) l w.2))

shallower : (d' d n : ℕ) (k : Bool) (X Y : Description) → d' < d → placed (ltb d' d) (eqb d' d) k n X Y ≡ done
shallower d' d n k X Y h = rw (lt-ltb d' d h)

deeper : (d' d n : ℕ) (k : Bool) (X Y : Description) → d < d' → placed (ltb d' d) (eqb d' d) k n X Y ≡ Y
deeper d' d n k X Y h = rw (le-ltb d' d (omega arith), ne_eqb d' d (λ e. omega arith))

level : (d n : ℕ) (k : Bool) (X Y : Description) → placed (ltb d d) (eqb d d) k n X Y ≡ placed false true k n X Y
level d n k X Y = rw (le-ltb d d (omega arith), eq-eqb d d refl)

joined : Description → Description → Description
joined done E = E
joined (name B rest) E = name B (joined rest E)
joined (some r beneath rest) E = some r beneath (joined rest E)

joined_done : (D : Description) → joined D done ≡ D
unfolding joined
joined_done done = refl
joined_done (name B rest) = ap (name B) (joined_done rest)
joined_done (some r beneath rest) = ap (some r beneath) (joined_done rest)

-- a deeper description is passed over
skip : (D : Description) (d' d : ℕ) → d < d' → (tail : List Record) → made_at d (written d' D tail) ≡ made_at d tail
skip done d' d h tail = refl
skip (name B rest) d' d h tail = deeper d' d B (eqb 0 0) _ _ h ∙ skip rest d' d h tail
skip (some r beneath rest) d' d h tail =
    deeper d' d r (eqb 1 0) _ _ h ∙ (skip beneath (suc d') d (omega arith) (written d' rest tail) ∙ skip rest d' d h tail)

abbrev Shallow : ℕ → List Record → Type 0
Shallow d [] = Unit {0}
Shallow d (r ∷ l) = r.depth ≤ d

shallow_more : (d e : ℕ) (l : List Record) → d ≤ e → Shallow d l → Shallow e l
shallow_more d e [] h s = tt
shallow_more d e (r ∷ l) h s = omega arith

stops : (d e : ℕ) (l : List Record) → d < e → Shallow d l → made_at e l ≡ done
stops d e [] h s = refl
stops d e (r ∷ l) h s = shallower r.depth e r.number (eqb r.kind 0) _ _ (omega arith)

begins : (D : Description) (d : ℕ) (tail : List Record) → Shallow d tail → Shallow d (written d D tail)
begins done d tail s = s
begins (name B rest) d tail s = omega arith
begins (some r beneath rest) d tail s = omega arith

back : (D : Description) (d : ℕ) (tail : List Record) → Shallow d tail → made_at d (written d D tail) ≡ joined D (made_at d tail)
unfolding joined
back done d tail s = refl
back (name B rest) d tail s = level d B (eqb 0 0) _ _ ∙ ap (name B) (back rest d tail s)
back (some r beneath rest) d tail s =
    let t = begins rest d tail s in
    level d r (eqb 1 0) _ _
    ∙ ap₂ (some r)
    (back beneath (suc d) (written d rest tail) (shallow_more d (suc d) (written d rest tail) (omega arith) t)
    ∙ (ap (joined beneath) (stops d (suc d) (written d rest tail) (omega arith) t) ∙ joined_done beneath))
    (skip beneath (suc d) d (omega arith) (written d rest tail) ∙ back rest d tail s)

pub read_back : (D : Description) → made_at 0 (written 0 D []) ≡ D
read_back D = back D 0 [] tt ∙ joined_done D

well_more : (m n : ℕ) (l : List Record) → m ≤ n → Well m l → Well n l
well_more m n [] h w = tt
well_more m n (r ∷ l) h w = (let k = w.0 in omega arith, w.1, w.2)

well : (D : Description) (d most : ℕ) (tail : List Record) → d ≤ most → Well d tail → Well most (written d D tail)
well done d most tail h w = well_more d most tail h w
well (name B rest) d most tail h w = (h, omega arith, well rest d (d + 0) tail (omega arith) w)
well (some r beneath rest) d most tail h w =
    (h, omega arith, well beneath (suc d) (d + 1) (written d rest tail) (omega arith) (well rest d (suc d) tail (omega arith) w))

pub well_written : (D : Description) → Well 0 (written 0 D [])
well_written D = well D 0 0 [] (omega arith) tt

-- the records from the first shallower than d
after : List Record → ℕ → List Record
after [] d = []
after (r ∷ l) d = cond (ltb r.depth d) (r ∷ l) (after l d)

after_here : (r : Record) (l : List Record) (d : ℕ) → r.depth < d → after (r ∷ l) d ≡ r ∷ l
unfolding after
after_here r l d h = ap (λ t. cond t (r ∷ l) (after l d)) (lt-ltb r.depth d h)

after_past : (r : Record) (l : List Record) (d : ℕ) → d ≤ r.depth → after (r ∷ l) d ≡ after l d
unfolding after
after_past r l d h = ap (λ t. cond t (r ∷ l) (after l d)) (le-ltb r.depth d h)

after_well : (l : List Record) (d : ℕ) → Well d l → after l (suc d) ≡ l
unfolding after
after_well [] d w = refl
after_well (r ∷ l) d w = after_here r l (suc d) (let k = w.0 in omega arith)

after_zero : (l : List Record) → after l 0 ≡ []
unfolding after
after_zero [] = refl
after_zero (r ∷ l) = after_past r l 0 (omega arith) ∙ after_zero l

abbrev Whole : List Record → ℕ → Type 0
Whole l d = written d (made_at d l) (after l d) ≡ after l (suc d)

order : (m n : ℕ) → (m < n) ⊎ ((m ≡ n) ⊎ (n < m))
order m n = go (dec_lt m n) (dec_lt n m)
  where
    go : Dec (m < n) → Dec (n < m) → (m < n) ⊎ ((m ≡ n) ⊎ (n < m))
    go (yes h) k = inl h
    go (no h) (yes k) = inr (inr k)
    go (no h) (no k) = inr (inl (omega arith))

kinds : (k : ℕ) → k ≤ 1 → (k ≡ 0) ⊎ (k ≡ 1)
kinds k h = go (ℕ_discrete k 0)
  where
    go : Dec (k ≡ 0) → (k ≡ 0) ⊎ (k ≡ 1)
    go (yes e) = inl e
    go (no e) = inr (omega arith)

at_name : (r : Record) (d : ℕ) (X Y : Description) → r.depth ≡ d → r.kind ≡ 0
    → placed (ltb r.depth d) (eqb r.depth d) (eqb r.kind 0) r.number X Y ≡ name r.number Y
at_name r d X Y e k = rw (le-ltb r.depth d (omega arith), eq-eqb r.depth d e, eq-eqb r.kind 0 k)

at_some : (r : Record) (d : ℕ) (X Y : Description) → r.depth ≡ d → r.kind ≡ 1
    → placed (ltb r.depth d) (eqb r.depth d) (eqb r.kind 0) r.number X Y ≡ some r.number X Y
at_some r d X Y e k = rw (le-ltb r.depth d (omega arith), eq-eqb r.depth d e, ne_eqb r.kind 0 (λ q. omega arith))

same_record : (r : Record) (d k : ℕ) → r.depth ≡ d → r.kind ≡ k → ◌≡◌ {A = Record} (record { depth = d; kind = k; number = r.number }) r
same_record r d k e q = λ i. record { depth = sym e i; kind = sym q i; number = r.number }

whole : (m : ℕ) (l : List Record) → Well m l → (d : ℕ) → Whole l d
unfolding after
whole m [] w d = refl
whole m (r ∷ l) w d = go (whole (r.depth + r.kind) l w.2) (order r.depth d) (kinds r.kind w.1)
  where
    head : List Record → Record → List Record
    head t x = x ∷ t

    go : ((e : ℕ) → Whole l e) → (r.depth < d) ⊎ ((r.depth ≡ d) ⊎ (d < r.depth)) → (r.kind ≡ 0) ⊎ (r.kind ≡ 1) → Whole (r ∷ l) d
    go rec (inl h) k =
        ap₂ (written d) (shallower r.depth d r.number (eqb r.kind 0) _ _ h) (after_here r l d h)
        ∙ sym (after_here r l (suc d) (omega arith))
    go rec (inr (inr h)) k =
        ap₂ (written d) (deeper r.depth d r.number (eqb r.kind 0) _ _ h) (after_past r l d (omega arith))
        ∙ (rec d ∙ sym (after_past r l (suc d) h))
    go rec (inr (inl e)) (inl k) =
        let v : Well d l = subst (λ m. Well m l) (omega arith) w.2 in
        ap₂ (written d) (at_name r d (made_at (suc d) l) (made_at d l) e k) (after_past r l d (omega arith))
        ∙ (ap (λ t. record { depth = d; kind = 0; number = r.number } ∷ t) (rec d ∙ after_well l d v)
        ∙ (ap (head l) (same_record r d 0 e k) ∙ sym (after_here r l (suc d) (omega arith))))
    go rec (inr (inl e)) (inr k) =
        let v : Well (suc d) l = subst (λ m. Well m l) (omega arith) w.2 in
        ap₂ (written d) (at_some r d (made_at (suc d) l) (made_at d l) e k) (after_past r l d (omega arith))
        ∙ (ap (λ t. record { depth = d; kind = 1; number = r.number } ∷ t)
        (ap (written (suc d) (made_at (suc d) l)) (rec d) ∙ (rec (suc d) ∙ after_well l (suc d) v))
        ∙ (ap (head l) (same_record r d 1 e k) ∙ sym (after_here r l (suc d) (omega arith))))

write_back : (l : List Record) → Well 0 l → written 0 (made_at 0 l) [] ≡ l
write_back l w = ap (written 0 (made_at 0 l)) (sym (after_zero l)) ∙ (whole 0 l w 0 ∙ after_well l 0 w)

-- n roles within roles, the first at depth d: how deep they reach
raised : ℕ → ℕ → ℕ
raised d zero = 0
raised d (suc n) = d + suc n

raised_zero : (n : ℕ) → raised 0 n ≡ n
unfolding raised
raised_zero zero = refl
raised_zero (suc n) = omega arith

raised_some : (d b r t : ℕ) → max (suc d) (max (raised (suc d) b) (max (raised d r) t)) ≡ max (raised d (max (suc b) r)) t
unfolding raised
raised_some d b r t = go (max (suc b) r) refl b r refl refl
  where
    go : (m : ℕ) → max (suc b) r ≡ m → (b' r' : ℕ) → b ≡ b' → r ≡ r' → max (suc d) (max (raised (suc d) b') (max (raised d r') t)) ≡ max (raised d m) t
    go zero q b' r' e e' = absurd (omega arith)
    go (suc m) q zero zero e e' = omega arith
    go (suc m) q zero (suc r') e e' = omega arith
    go (suc m) q (suc b') zero e e' = omega arith
    go (suc m) q (suc b') (suc r') e e' = omega arith

depth_written : (D : Description) (d : ℕ) (tail : List Record) → list_role_depth (written d D tail) ≡ max (raised d (role_depth D)) (list_role_depth tail)
unfolding raised
depth_written done d tail = omega arith
depth_written (name B rest) d tail = depth_written rest d tail
depth_written (some r beneath rest) d tail =
    ap (max (suc d))
    (depth_written beneath (suc d) (written d rest tail)
    ∙ ap (max (raised (suc d) (role_depth beneath))) (depth_written rest d tail))
    ∙ raised_some d (role_depth beneath) (role_depth rest) (list_role_depth tail)

pub one_to_one : OneToOne
one_to_one =
    record {
      records_step = λ D. well_step 0 (records_of D) (well_written D);
      read_back = read_back;
      write_back = λ rs h. write_back rs (step_well 0 rs h);
      same_depth =
          λ rs h.
          let D : Description = description_of rs in
          let deep : list_role_depth (records_of D) ≡ max (raised 0 (role_depth D)) 0 = depth_written D 0 [] in
          let flat : raised 0 (role_depth D) ≡ role_depth D = raised_zero (role_depth D) in
          let same : list_role_depth (records_of D) ≡ list_role_depth rs = ap list_role_depth (write_back rs (step_well 0 rs h)) in
          omega (arith, deep, flat, same);
    }
