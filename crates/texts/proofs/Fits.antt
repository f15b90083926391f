-- The numbers of a book that can be fit their fields. Assumes nothing.
use Rattle.std.proofs.Common.{◌≡◌, ℕ, ◌≤◌, Bool, true, false, ◌&&◌, eqb, ltb, ⊎_elim, arith}
use Rattle.std.proofs.lemmas.Bool.{and_parts, or_cases, or_parts, ltb-true, ltb-false, eqb-true}
use Rattle.labels.specs.Kind.{Kind, Lawful}
use Rattle.terms.specs.declared.Sizes.{Sizes}
use Rattle.terms.specs.declared.Sentence.{Sentence}
use Rattle.terms.specs.Places.{outside_limits}
use Rattle.terms.specs.Sentences.{well_formed}
use Rattle.texts.specs.Lines.{numbered, sizes_fit, sentence_fits}
use Rattle.texts.proofs.Rows.{sizes_fit_from, sentence_fits_from}

-- sizes within the limits
record Within (z : Sizes) : Type 0 where
  concepts : z.concepts ≤ 512
  roles : z.roles ≤ 32
  individuals : z.individuals ≤ 512

within : (z : Sizes) → outside_limits z ≡ false → Within z
within z h =
    let p = or_parts (eqb z.concepts 0) _ h in
    let q = or_parts (ltb 512 z.concepts) _ p.1 in
    let r = or_parts (ltb 32 z.roles) _ q.1 in
    record { concepts = ltb-false 512 z.concepts q.0; roles = ltb-false 32 z.roles r.0; individuals = ltb-false 512 z.individuals r.1 }

pub limits_fit : (z : Sizes) → outside_limits z ≡ false → sizes_fit z ≡ true
limits_fit z h =
    let w = within z h in
    sizes_fit_from z (omega (arith, w.concepts)) (omega (arith, w.roles)) (omega (arith, w.individuals))

-- a test that only numbers up to 512 pass
abbrev Low : (ℕ → Bool) → Type 0
Low test = (n : ℕ) → test n ≡ true → n ≤ 512

low_below : (most : ℕ) → most ≤ 512 → Low (λ n. ltb n most)
low_below most h n t = omega (arith, ltb-true n most t)

low_zero : Low (λ n. eqb n 0)
low_zero n t = omega (arith, eqb-true n 0 t)

module _ {L : Type 0} (s : Sentence L) where
  record Small : Type 0 where
    form : s.form ≤ 6
    first : s.first ≤ 512
    second : s.second ≤ 512
    role : s.role ≤ 512
    third : s.third ≤ 512

  small :
      (form : ℕ) → form ≤ 6 → (f g h i : ℕ → Bool) → Low f → Low g → Low h → Low i
      → (eqb s.form form && (f s.first && (g s.second && (h s.role && i s.third)))) ≡ true → Small
  small form l f g h i a b c d e =
      let p = and_parts (eqb s.form form) _ e in
      let q = and_parts (f s.first) _ p.1 in
      let r = and_parts (g s.second) _ q.1 in
      let t = and_parts (h s.role) _ r.1 in
      record {
        form = omega (arith, eqb-true s.form form p.0);
        first = a s.first q.0;
        second = b s.second r.0;
        role = c s.role t.0;
        third = d s.third t.1;
      }

  module _ (z : Sizes) (limits : outside_limits z ≡ false) where
    abbrev concept : ℕ → Bool
    concept n = ltb n z.concepts

    abbrev role_test : ℕ → Bool
    role_test n = ltb n z.roles

    abbrev unit : ℕ → Bool
    unit n = ltb n z.individuals

    abbrev unused : ℕ → Bool
    unused n = eqb n 0

    formed_small : well_formed z s ≡ true → Small
    formed_small h =
        let w = within z limits in
        let c = low_below z.concepts w.concepts in
        let r = low_below z.roles (omega (arith, w.roles)) in
        let u = low_below z.individuals w.individuals in
        ⊎_elim (small 1 (omega arith) concept unused unused concept c low_zero low_zero c) (λ h.
        ⊎_elim (small 2 (omega arith) concept concept unused concept c c low_zero c) (λ h.
        ⊎_elim (small 3 (omega arith) concept unused role_test concept c low_zero r c) (λ h.
        ⊎_elim (small 4 (omega arith) concept unused role_test concept c low_zero r c) (λ h.
        ⊎_elim (small 5 (omega arith) unit unused unused concept u low_zero low_zero c)
        (small 6 (omega arith) unit unused role_test unit u low_zero r u)
        (or_cases _ _ h)) (or_cases _ _ h)) (or_cases _ _ h)) (or_cases _ _ h)) (or_cases _ _ h)

    pub formed_fit : (k : Kind L) → Lawful k → well_formed z s ≡ true → sentence_fits (numbered k s) ≡ true
    formed_fit k laws h =
        let w = formed_small h in
        sentence_fits_from (numbered k s) (omega (arith, w.form)) (omega (arith, w.first)) (omega (arith, w.second))
        (omega (arith, w.role)) (omega (arith, w.third)) (omega (arith, laws.number_fits s.label))
