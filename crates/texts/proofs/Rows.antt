-- Lines of values: each is told from what follows it. Assumes nothing.
use Rattle.std.proofs.Common.{◌≡◌, ℕ, ◌^◌, ◌<◌, ◌≤◌, true, ltb, List, [], ◌∷◌, ◌++◌, length, get_or, drop, decimal, sym, refl, ap, ◌∙◌, arith}
use Rattle.std.specs.List.{AllByRecursion}
use Rattle.std.proofs.lemmas.List.{append_assoc, length-append}
use Rattle.std.proofs.lemmas.Bool.{and_from, and_parts, ltb-true, lt-ltb}
use Rattle.terms.specs.declared.Sizes.{Sizes}
use Rattle.terms.specs.declared.Sentence.{Sentence}
use Rattle.texts.specs.Lines.{values, sizes_line, sentence_line, sizes_fit, sentence_fits}
use Rattle.texts.specs.Texts.{Opens}
use Rattle.lines.proofs.Numbers.{same_start}

-- a number and what follows it are determined by the byte that ends it
pub same_field : (n m e : ℕ) (xs ys : List ℕ) → n < 2 ^ 64 → m < 2 ^ 64 → e < 48 → decimal n ++ (e ∷ xs) ≡ decimal m ++ (e ∷ ys) → (n ≡ m) × (xs ≡ ys)
same_field n m e xs ys l k below h =
    let s = same_start n m (e ∷ xs) (e ∷ ys) l k (λ d. omega (arith, d.0)) (λ d. omega (arith, d.0)) h in (s.0, ap (drop 1) s.1)

-- the number that begins a text is above the limit, so that none up to it does
pub too_large :
    {text : List ℕ} {v most e : ℕ} (rest : List ℕ) → (v ≤ 18446744073709551615) × (text ≡ decimal v ++ (e ∷ rest)) → most < v → e < 48
    → (n : ℕ) (more : List ℕ) → n ≤ most → text ≡ decimal n ++ (e ∷ more) → ⊥
too_large {text} {v} {most} {e} rest read large end n more small h =
    omega (arith, large, small, (same_field v n e rest more (omega (arith, read.0)) (omega (arith, large, small, read.0)) end (sym read.1 ∙ h)).0)

-- a line of values with what follows it
abbrev pub values_onto : ℕ → List ℕ → List ℕ → List ℕ
values_onto n [] tail = decimal n ++ (10 ∷ tail)
values_onto n (m ∷ ms) tail = decimal n ++ (32 ∷ values_onto m ms tail)

pub onto : (n : ℕ) (ms tail : List ℕ) → values n ms ++ tail ≡ values_onto n ms tail
onto n [] tail = append_assoc (decimal n) (10 ∷ []) tail
onto n (m ∷ ms) tail = append_assoc (decimal n) (32 ∷ values m ms) tail ∙ ap (λ z. decimal n ++ (32 ∷ z)) (onto m ms tail)

-- each number is at most its limit
abbrev pub Under : List ℕ → List ℕ → Type 0
Under [] [] = Unit {0}
Under [] (m ∷ ms) = ⊥
Under (n ∷ ns) [] = ⊥
Under (n ∷ ns) (m ∷ ms) = (n ≤ m) × Under ns ms

-- no number up to the limit begins the text with this end
abbrev pub NoField : List ℕ → ℕ → ℕ → Type 0
NoField text most end = (n : ℕ) (more : List ℕ) → n ≤ most → text ≡ decimal n ++ (end ∷ more) → ⊥

-- no line of values with these limits begins the text
abbrev NoneOf : List ℕ → ℕ → List ℕ → Type 0
NoneOf text most limits = (n : ℕ) (ns more : List ℕ) → Under (n ∷ ns) (most ∷ limits) → text ≡ values_onto n ns more → ⊥

pub record NoValues (text : List ℕ) (most : ℕ) (limits : List ℕ) : Type 0 where
  pub none : NoneOf text most limits

none_last : (text : List ℕ) (most : ℕ) → NoField text most 10 → NoneOf text most []
none_last text most none n [] more u h = none n more u.0 h
none_last text most none n (k ∷ ns) more u h = u.1

none_first : (text : List ℕ) (most m : ℕ) (ms : List ℕ) → NoField text most 32 → NoneOf text most (m ∷ ms)
none_first text most m ms none n [] more u h = u.1
none_first text most m ms none n (k ∷ ns) more u h = none n (values_onto k ns more) u.0 h

none_later :
    (text rest : List ℕ) (v most m : ℕ) (ms : List ℕ) → most < 2 ^ 64 → (v ≤ most) × (text ≡ decimal v ++ (32 ∷ rest))
    → NoneOf rest m ms → NoneOf text most (m ∷ ms)
none_later text rest v most m ms l q none n [] more u h = u.1
none_later text rest v most m ms l q none n (k ∷ ns) more u h =
    none k ns more u.1
    (same_field v n 32 rest (values_onto k ns more) (omega (arith, q.0)) (omega (arith, u.0)) (omega arith) (sym q.1 ∙ h)).1

-- the last number is not there, or the first of several is not, or one after the first
pub no_last : {text : List ℕ} {most : ℕ} → NoField text most 10 → NoValues text most []
no_last {text} {most} none = record { none = none_last text most none }

pub no_first : {text : List ℕ} {most m : ℕ} {ms : List ℕ} → NoField text most 32 → NoValues text most (m ∷ ms)
no_first {text} {most} {m} {ms} none = record { none = none_first text most m ms none }

pub no_later :
    {text rest : List ℕ} {v most m : ℕ} {ms : List ℕ} → most < 2 ^ 64 → (v ≤ most) × (text ≡ decimal v ++ (32 ∷ rest))
    → NoValues rest m ms → NoValues text most (m ∷ ms)
no_later {text} {rest} {v} {most} {m} {ms} l q later = record { none = none_later text rest v most m ms l q later.none }

-- two lines of as many values that begin one text are one line
same_values :
    (n m : ℕ) (ns ms t u : List ℕ) → length ns ≡ length ms → AllByRecursion (λ i. i < 2 ^ 64) (n ∷ ns) → AllByRecursion (λ i. i < 2 ^ 64) (m ∷ ms)
    → values_onto n ns t ≡ values_onto m ms u → (◌≡◌ {A = List ℕ} (n ∷ ns) (m ∷ ms)) × (t ≡ u)
same_values n m [] [] t u l p q h =
    let s = same_field n m 10 t u p.0 q.0 (omega arith) h in (ap (λ z. z ∷ []) s.0, s.1)
same_values n m [] (b ∷ ms) t u l p q h = absurd (omega arith)
same_values n m (a ∷ ns) [] t u l p q h = absurd (omega arith)
same_values n m (a ∷ ns) (b ∷ ms) t u l p q h =
    let s = same_field n m 32 (values_onto a ns t) (values_onto b ms u) p.0 q.0 (omega arith) h in
    let r = same_values a b ns ms t u (omega arith) p.1 q.1 s.1 in
    (ap (λ z. z ∷ (a ∷ ns)) s.0 ∙ ap (λ z. m ∷ z) r.0, r.1)

-- the numbers of a line, and back
abbrev later_sizes : Sizes → List ℕ
later_sizes z = z.roles ∷ (z.individuals ∷ [])

abbrev sizes_from : List ℕ → Sizes
sizes_from ns = record { concepts = get_or ns 0 0; roles = get_or ns 1 0; individuals = get_or ns 2 0 }

abbrev later_names : Sentence ℕ → List ℕ
later_names s = s.first ∷ (s.second ∷ (s.role ∷ (s.third ∷ (s.label ∷ []))))

abbrev sentence_from : List ℕ → Sentence ℕ
sentence_from ns =
    record { form = get_or ns 0 0; first = get_or ns 1 0; second = get_or ns 2 0; role = get_or ns 3 0; third = get_or ns 4 0; label = get_or ns 5 0 }

abbrev pub sizes_limits : List ℕ
sizes_limits = 65535 ∷ (65535 ∷ [])

abbrev pub sentence_limits : List ℕ
sentence_limits = 65535 ∷ (65535 ∷ (65535 ∷ (65535 ∷ (18446744073709551615 ∷ []))))

sizes_under : (z : Sizes) → sizes_fit z ≡ true → Under (z.concepts ∷ later_sizes z) (65535 ∷ sizes_limits)
sizes_under z h =
    let p = and_parts (ltb z.concepts (2 ^ 16)) _ h in
    let q = and_parts (ltb z.roles (2 ^ 16)) _ p.1 in
    (omega (arith, ltb-true _ _ p.0), (omega (arith, ltb-true _ _ q.0), (omega (arith, ltb-true _ _ q.1), tt)))

sentence_under : (s : Sentence ℕ) → sentence_fits s ≡ true → Under (s.form ∷ later_names s) (255 ∷ sentence_limits)
sentence_under s h =
    let p = and_parts (ltb s.form (2 ^ 8)) _ h in
    let q = and_parts (ltb s.first (2 ^ 16)) _ p.1 in
    let r = and_parts (ltb s.second (2 ^ 16)) _ q.1 in
    let t = and_parts (ltb s.role (2 ^ 16)) _ r.1 in
    let u = and_parts (ltb s.third (2 ^ 16)) _ t.1 in (
      omega (arith, ltb-true _ _ p.0),
      (
        omega (arith, ltb-true _ _ q.0),
        (
          omega (arith, ltb-true _ _ r.0),
          (omega (arith, ltb-true _ _ t.0), (omega (arith, ltb-true _ _ u.0), (omega (arith, ltb-true _ _ u.1), tt))),
        ),
      ),
    )

pub sizes_fit_from : (z : Sizes) → z.concepts ≤ 65535 → z.roles ≤ 65535 → z.individuals ≤ 65535 → sizes_fit z ≡ true
sizes_fit_from z a b c =
    and_from (ltb z.concepts (2 ^ 16)) _ (lt-ltb z.concepts (2 ^ 16) (omega arith))
    (and_from (ltb z.roles (2 ^ 16)) _ (lt-ltb z.roles (2 ^ 16) (omega arith)) (lt-ltb z.individuals (2 ^ 16) (omega arith)))

pub sentence_fits_from :
    (s : Sentence ℕ) → s.form ≤ 255 → s.first ≤ 65535 → s.second ≤ 65535 → s.role ≤ 65535 → s.third ≤ 65535
    → s.label ≤ 18446744073709551615 → sentence_fits s ≡ true
sentence_fits_from s a b c d e f =
    and_from (ltb s.form (2 ^ 8)) _ (lt-ltb s.form (2 ^ 8) (omega arith))
    (and_from (ltb s.first (2 ^ 16)) _ (lt-ltb s.first (2 ^ 16) (omega arith))
    (and_from (ltb s.second (2 ^ 16)) _ (lt-ltb s.second (2 ^ 16) (omega arith))
    (and_from (ltb s.role (2 ^ 16)) _ (lt-ltb s.role (2 ^ 16) (omega arith))
    (and_from (ltb s.third (2 ^ 16)) _ (lt-ltb s.third (2 ^ 16) (omega arith)) (lt-ltb s.label (2 ^ 64) (omega arith))))))

pub no_sizes_line : (text : List ℕ) → NoValues text 65535 sizes_limits → (z : Sizes) (more : List ℕ) → sizes_fit z ≡ true → Opens text (sizes_line z) more → ⊥
no_sizes_line text values z more f h =
    values.none z.concepts (later_sizes z) more (sizes_under z f) (h ∙ onto z.concepts (later_sizes z) more)

pub no_sentence_line : (text : List ℕ) → NoValues text 255 sentence_limits → (s : Sentence ℕ) (more : List ℕ) → sentence_fits s ≡ true → Opens text (sentence_line s) more → ⊥
no_sentence_line text values s more f h =
    values.none s.form (later_names s) more (sentence_under s f) (h ∙ onto s.form (later_names s) more)

pub same_sizes : (y z : Sizes) (t u : List ℕ) → sizes_fit y ≡ true → sizes_fit z ≡ true → sizes_line y ++ t ≡ sizes_line z ++ u → (y ≡ z) × (t ≡ u)
same_sizes y z t u p q h =
    let a = sizes_under y p in let b = sizes_under z q in
    let s = same_values y.concepts z.concepts (later_sizes y) (later_sizes z) t u refl
    (omega arith, (omega arith, (omega arith, tt))) (omega arith, (omega arith, (omega arith, tt)))
    (sym (onto y.concepts (later_sizes y) t) ∙ h ∙ onto z.concepts (later_sizes z) u) in
    (ap sizes_from s.0, s.1)

pub same_sentence : (r s : Sentence ℕ) (t u : List ℕ) → sentence_fits r ≡ true → sentence_fits s ≡ true → sentence_line r ++ t ≡ sentence_line s ++ u → (r ≡ s) × (t ≡ u)
same_sentence r s t u p q h =
    let a = sentence_under r p in let b = sentence_under s q in
    let e = same_values r.form s.form (later_names r) (later_names s) t u refl
    (omega arith, (omega arith, (omega arith, (omega arith, (omega arith, (omega arith, tt))))))
    (omega arith, (omega arith, (omega arith, (omega arith, (omega arith, (omega arith, tt))))))
    (sym (onto r.form (later_names r) t) ∙ h ∙ onto s.form (later_names s) u) in
    (ap sentence_from e.0, e.1)

-- a line is not empty
pub line_some : (s : Sentence ℕ) → 0 < length (sentence_line s)
line_some s = omega (arith, length-append (decimal s.form) (32 ∷ values s.first (s.second ∷ (s.role ∷ (s.third ∷ (s.label ∷ []))))))
