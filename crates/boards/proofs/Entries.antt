-- What looking a place up among entries gives, also after one is changed or appended. Assumes nothing.
use Rattle.std.proofs.Common.{◌≡◌, ℕ, zero, suc, ◌<◌, ◌≤◌, true, Bool, cond, not, eqb, ltb, List, [], ◌∷◌, ◌++◌, length, get_or, take, set, Some, None, Option, sym, refl, ap, ◌∙◌, subst, ⊎_elim, arith}
use Rattle.std.proofs.lemmas.List.{length-take-le, get_or-take}
use Rattle.std.proofs.lemmas.Bool.{cases_eq, cases_lt, cond-true, cond-false, eq-eqb, eqb-true, eqb-false, lt-ltb, ne_eqb}
use Rattle.std.proofs.lemmas.List.Quantifiers.{position-Some}
use Rattle.std.proofs.lemmas.List.Sums.{fails_before_first}
use Rattle.std.proofs.lemmas.Option.{none-some}
use Rattle.std.proofs.Math.Seq.{take-length}
use Rattle.std.specs.List.{position, position_or_len}
use Rattle.labels.specs.Kind.{Kind, some_view}
use Rattle.boards.specs.declared.sparse.Entry.{Entry}
use Rattle.boards.specs.Entries.{entered, Absent, Apart}

-- the index of the first entry of a place, or that no entry has it
abbrev pub FirstEntry : {L : Type 0} → List (Entry L) → ℕ → Option ℕ → Type 0
FirstEntry {L} es p (Some at) = (at < length es) × Absent p (take at es) × ((blank : Entry L) → (get_or es at blank).place ≡ p)
FirstEntry es p None = Absent p es

-- the first n entries have other places
absent_below : {L : Type 0} (p : ℕ) (blank : Entry L) (es : List (Entry L)) (n : ℕ) → ((j : ℕ) → j < n → (get_or es j blank).place ≡ p → ⊥) → Absent p (take n es)
absent_below p blank [] zero other = tt
absent_below p blank [] (suc n) other = tt
absent_below p blank (e ∷ es) zero other = tt
absent_below p blank (e ∷ es) (suc n) other = (other 0 (omega arith), absent_below p blank es n (λ j below. other (suc j) (omega arith)))

-- a search of the entries for a place finds its first entry
pub first_entry : {L : Type 0} (none : L) (es : List (Entry L)) (p : ℕ) (r : Option ℕ) → r ≡ position (λ e. eqb e.place p) es → FirstEntry es p r
first_entry {L} none es p (Some at) is =
    let blank : Entry L = record { place = p; label = none } in
    let found = λ (b : Entry L). position-Some (λ e. eqb e.place p) es at b (sym is) in
    ((found blank).0, absent_below p blank es at (λ j below. eqb-false (get_or es j blank).place p ((found blank).2 j below)), λ b. eqb-true (get_or es at b).place p (found b).1)
first_entry {L} none es p None is =
    let blank : Entry L = record { place = p; label = none } in
    let test : Entry L → Bool = λ e. eqb e.place p in
    let missed : length es ≤ position_or_len test es = ⊎_elim (λ (found : position_or_len test es < length es). absurd (none-some (position_or_len test es) (is ∙ cond-true (ltb (position_or_len test es) (length es)) (Some (position_or_len test es)) None (lt-ltb (position_or_len test es) (length es) found)))) (λ past. past) (cases_lt (position_or_len test es) (length es)) in
    subst (Absent p) (take-length es) (absent_below p blank es (length es) (λ j below. eqb-false (get_or es j blank).place p (fails_before_first test es j blank (omega (arith, missed, below)))))

module _ {L : Type 0} where
  pub absent_push : (es : List (Entry L)) (e : Entry L) (p : ℕ) → Absent p es → (e.place ≡ p → ⊥) → Absent p (es ++ (e ∷ []))
  absent_push [] e p absent other = (other, tt)
  absent_push (x ∷ es) e p absent other = (absent.0, absent_push es e p absent.1 other)

  -- an entry in use stands among all
  pub in_use : (es : List (Entry L)) (used i : ℕ) → used ≤ length es → i < length (take used es) → i < length es
  in_use es used i fits inside = omega (arith, length-take-le used es fits, inside)

  -- a change of an entry that leaves its place
  pub absent_set : (es : List (Entry L)) (i : ℕ) (blank e : Entry L) (p : ℕ) → e.place ≡ (get_or es i blank).place → Absent p es → Absent p (set es i e)
  absent_set [] i blank e p same absent = tt
  absent_set (x ∷ es) zero blank e p same absent = (λ q. absent.0 (sym same ∙ q), absent.1)
  absent_set (x ∷ es) (suc i) blank e p same absent = (absent.0, absent_set es i blank e p same absent.1)

module _ {L : Type 0} (k : Kind L) where
  pub entered_here : (e : Entry L) (es : List (Entry L)) (p : ℕ) → e.place ≡ p → entered k (e ∷ es) p ≡ e.label
  entered_here e es p at = cond-true (eqb e.place p) e.label (entered k es p) (eq-eqb e.place p at)

  pub entered_beyond : (e : Entry L) (es : List (Entry L)) (p : ℕ) → (e.place ≡ p → ⊥) → entered k (e ∷ es) p ≡ entered k es p
  entered_beyond e es p other = cond-false (eqb e.place p) e.label (entered k es p) (ne_eqb e.place p other)

  pub entered_absent : (es : List (Entry L)) (p : ℕ) → Absent p es → entered k es p ≡ k.none
  entered_absent [] p absent = refl
  entered_absent (e ∷ es) p absent = entered_beyond e es p absent.0 ∙ entered_absent es p absent.1

  -- the first entry of a place gives its label
  pub entered_first :
      (es : List (Entry L)) (i : ℕ) (blank : Entry L) (p : ℕ)
      → i < length es → Absent p (take i es) → (get_or es i blank).place ≡ p → entered k es p ≡ (get_or es i blank).label
  entered_first [] i blank p inside before at = absurd (omega arith)
  entered_first (e ∷ es) zero blank p inside before at = entered_here e es p at
  entered_first (e ∷ es) (suc i) blank p inside before at = entered_beyond e es p before.0 ∙ entered_first es i blank p (omega arith) before.1 at

  -- the label that was read at the first entry of a place in use is the place's
  pub label_in_use :
      (es : List (Entry L)) (used i p : ℕ) (l : L)
      → used ≤ length es → FirstEntry (take used es) p (Some i) → ((blank : Entry L) → l ≡ (get_or es i blank).label) → l ≡ entered k (take used es) p
  label_in_use es used i p l fits first is =
      let blank : Entry L = record { place = p; label = k.none } in
      let inside : i < used = omega (arith, length-take-le used es fits, first.0) in
      is blank ∙ sym (ap (λ e. e.label) (get_or-take used es i blank inside)) ∙ sym (entered_first (take used es) i blank p first.0 first.1 (first.2 blank))

  pub entered_push : (es : List (Entry L)) (e : Entry L) → Absent e.place es → entered k (es ++ (e ∷ [])) e.place ≡ e.label
  entered_push [] e absent = entered_here e [] e.place refl
  entered_push (x ∷ es) e absent = entered_beyond x (es ++ (e ∷ [])) e.place absent.0 ∙ entered_push es e absent.1

  pub entered_push_other : (es : List (Entry L)) (e : Entry L) (p : ℕ) → (e.place ≡ p → ⊥) → entered k (es ++ (e ∷ [])) p ≡ entered k es p
  entered_push_other [] e p other = entered_beyond e [] p other
  entered_push_other (x ∷ es) e p other = ap (λ l. cond (eqb x.place p) x.label l) (entered_push_other es e p other)

  pub entered_set_other :
      (es : List (Entry L)) (i : ℕ) (blank e : Entry L) (p : ℕ)
      → e.place ≡ (get_or es i blank).place → (e.place ≡ p → ⊥) → entered k (set es i e) p ≡ entered k es p
  entered_set_other [] i blank e p same other = refl
  entered_set_other (x ∷ es) zero blank e p same other = entered_beyond e es p other ∙ sym (entered_beyond x es p (λ q. other (same ∙ q)))
  entered_set_other (x ∷ es) (suc i) blank e p same other = ap (λ l. cond (eqb x.place p) x.label l) (entered_set_other es i blank e p same other)

  module _ (size : ℕ) where
    pub entered_past : (es : List (Entry L)) (p : ℕ) → size ≤ p → Apart k size es → entered k es p ≡ k.none
    entered_past [] p past apart = refl
    entered_past (e ∷ es) p past apart = entered_beyond e es p (λ at. omega (arith, apart.0)) ∙ entered_past es p past apart.3

    pub entered_some : (es : List (Entry L)) (p : ℕ) → Apart k size es → (Absent p es → ⊥) → some_view k (entered k es p) ≡ true
    entered_some [] p apart present = absurd (present tt)
    entered_some (e ∷ es) p apart present =
        ⊎_elim
        (λ at. ap (some_view k) (entered_here e es p at) ∙ ap not (ne_eqb (k.number e.label) 0 apart.1))
        (λ other. ap (some_view k) (entered_beyond e es p other) ∙ entered_some es p apart.3 (λ absent. present (other, absent)))
        (cases_eq e.place p)

    pub apart_label : (es : List (Entry L)) (i : ℕ) (blank : Entry L) → i < length es → Apart k size es → k.number (get_or es i blank).label ≡ 0 → ⊥
    apart_label [] i blank inside apart = absurd (omega arith)
    apart_label (e ∷ es) zero blank inside apart = apart.1
    apart_label (e ∷ es) (suc i) blank inside apart = apart_label es i blank (omega arith) apart.3

    pub apart_set :
        (es : List (Entry L)) (i : ℕ) (blank e : Entry L)
        → e.place ≡ (get_or es i blank).place → (k.number e.label ≡ 0 → ⊥) → Apart k size es → Apart k size (set es i e)
    apart_set [] i blank e same some apart = tt
    apart_set (x ∷ es) zero blank e same some apart =
        (omega (arith, apart.0), some, subst (λ (p : ℕ). Absent p es) (sym same) apart.2, apart.3)
    apart_set (x ∷ es) (suc i) blank e same some apart =
        (apart.0, apart.1, absent_set es i blank e x.place same apart.2, apart_set es i blank e same some apart.3)

    pub apart_push :
        (es : List (Entry L)) (e : Entry L)
        → e.place < size → (k.number e.label ≡ 0 → ⊥) → Absent e.place es → Apart k size es → Apart k size (es ++ (e ∷ []))
    apart_push [] e inside some absent apart = (inside, some, tt, tt)
    apart_push (x ∷ es) e inside some absent apart =
        (apart.0, apart.1, absent_push es e x.place apart.2 (λ q. absent.0 (sym q)), apart_push es e inside some absent.1 apart.3)
