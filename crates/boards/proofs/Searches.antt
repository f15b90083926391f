-- The least place of an entry in use from one place up to another, and what it says of the board. Assumes nothing.
use Rattle.std.proofs.Common.{◌≡◌, ℕ, ◌<◌, ◌≤◌, min, true, false, Bool, cond, not, eqb, leb, ltb, ◌&&◌, List, [], ◌∷◌, ◌++◌, length, get_or, map, take, ◌+◌, Option, sym, refl, ap, ◌∙◌, subst, ⊎_elim, inl, inr, arith}
use Rattle.std.specs.Bool.{then_some}
use Rattle.std.specs.List.{filter, fold, reduce}
use Rattle.std.proofs.lemmas.Bool.{and_from, and_parts, cases_Bool, cases_lt, cond-false, cond-true, le-leb, le-ltb, leb-true, lt-ltb, ltb-true, both_ways}
use Rattle.std.proofs.lemmas.List.{map-append, take_more}
use Rattle.std.proofs.lemmas.List.Elements.{filter-append}
use Rattle.std.proofs.lemmas.List.Sums.{fold-append}
use Rattle.labels.specs.Kind.{Kind, Lawful, some_view}
use Rattle.terms.specs.Lists.{◌∈◌}
use Rattle.boards.specs.declared.sparse.Entry.{Entry}
use Rattle.boards.specs.Meaning.{NextSome}
use Rattle.boards.specs.Entries.{entered, entries_meaning, Absent, EntriesKept, places_between}
use Rattle.boards.proofs.Entries.{entered_absent, entered_some}

-- the least of numbers is one of them, and none is less
least : (a : ℕ) (xs : List ℕ) → (fold min a xs ∈ (a ∷ xs)) × ((x : ℕ) → x ∈ (a ∷ xs) → fold min a xs ≤ x)
least a [] = (inl refl, λ x at. ⊎_elim (λ is. omega (arith, is)) (λ none. absurd none) at)
least a (b ∷ xs) =
    let rest = least (min a b) xs in (
      ⊎_elim
          (λ is. ⊎_elim (λ (lt : a < b). inl (omega (arith, is))) (λ (le : b ≤ a). inr (inl (omega (arith, is)))) (cases_lt a b))
          (λ later. inr (inr later)) rest.0,
      λ x at. ⊎_elim (λ is. omega (arith, is, rest.1 (min a b) (inl refl))) (λ more. ⊎_elim (λ is. omega (arith, is, rest.1 (min a b) (inl refl))) (λ later. rest.1 x (inr later)) more) at,
    )

-- whether a place stands between two others
abbrev Between : ℕ → ℕ → ℕ → Bool
Between from to p = leb from p && ltb p to

-- one place more lowers the smallest where it stands between the two
smallest_one : (from to p a : ℕ) → fold min a (filter (Between from to) (p ∷ [])) ≡ cond (Between from to p) (min a p) a
smallest_one from to p a =
    ⊎_elim (λ (passes : Between from to p ≡ true). rw passes refl) (λ (fails : Between from to p ≡ false). rw fails refl) (cases_Bool (Between from to p))

module _ {L : Type 0} (from to : ℕ) where
  -- a place of an entry between the two stands there, and is not absent
  found_between : (es : List (Entry L)) (m : ℕ) → m ∈ places_between from to es → (from ≤ m) × (m < to) × (Absent m es → ⊥)
  found_between [] m at = absurd at
  found_between (e ∷ es) m at =
      let later : m ∈ places_between from to es → (from ≤ m) × (m < to) × (Absent m (e ∷ es) → ⊥) = λ more. let rest = found_between es m more in (rest.0, rest.1, λ absent. rest.2 absent.1) in
      ⊎_elim
      (λ (passes : Between from to e.place ≡ true).
      let parts = and_parts (leb from e.place) (ltb e.place to) passes in
      ⊎_elim
      (λ is. (omega (arith, is, leb-true from e.place parts.0), omega (arith, is, ltb-true e.place to parts.1), λ absent. absent.0 (sym is)))
      later
      (subst (λ (ps : List ℕ). m ∈ ps) (cond-true (Between from to e.place) (e.place ∷ places_between from to es) (places_between from to es) passes) at))
      (λ (fails : Between from to e.place ≡ false).
      later (subst (λ (ps : List ℕ). m ∈ ps) (cond-false (Between from to e.place) (e.place ∷ places_between from to es) (places_between from to es) fails) at))
      (cases_Bool (Between from to e.place))

  -- a place between the two that is no entry's place is absent
  absent_between : (es : List (Entry L)) (q : ℕ) → from ≤ q → q < to → (q ∈ places_between from to es → ⊥) → Absent q es
  absent_between [] q low high out = tt
  absent_between (e ∷ es) q low high out =
      ⊎_elim
      (λ (passes : Between from to e.place ≡ true).
      let is = sym (cond-true (Between from to e.place) (e.place ∷ places_between from to es) (places_between from to es) passes) in
      (λ at. out (subst (λ (ps : List ℕ). q ∈ ps) is (inl (sym at))), absent_between es q low high (λ more. out (subst (λ (ps : List ℕ). q ∈ ps) is (inr more)))))
      (λ (fails : Between from to e.place ≡ false).
      let is = sym (cond-false (Between from to e.place) (e.place ∷ places_between from to es) (places_between from to es) fails) in (
        λ at. both_ways (Between from to e.place) fails (and_from (leb from e.place) (ltb e.place to) (le-leb from e.place (omega (arith, at))) (lt-ltb e.place to (omega (arith, at)))),
        absent_between es q low high (λ more. out (subst (λ (ps : List ℕ). q ∈ ps) is more)),
      ))
      (cases_Bool (Between from to e.place))

  -- the smallest of so many entries' places there, and `to` where none of them has one
  abbrev pub smallest_of : List (Entry L) → ℕ
  smallest_of es = fold min to (places_between from to es)

  smallest_below : (es : List (Entry L)) → smallest_of es ≤ to
  smallest_below es = (least to (places_between from to es)).1 to (inl refl)

  smallest_push : (es : List (Entry L)) (e : Entry L) → smallest_of (es ++ (e ∷ [])) ≡ cond (Between from to e.place) (min (smallest_of es) e.place) (smallest_of es)
  smallest_push es e =
      ap (λ ps. fold min to (filter (Between from to) ps)) (map-append (λ (x : Entry L). x.place) es (e ∷ []))
      ∙ ap (fold min to) (filter-append (Between from to) (map (λ (x : Entry L). x.place) es) (e.place ∷ []))
      ∙ fold-append min to (places_between from to es) (filter (Between from to) (e.place ∷ []))
      ∙ smallest_one from to e.place (smallest_of es)

  module _ (es : List (Entry L)) (i s : ℕ) (e : Entry L) (inside : i < length es) (at : e ≡ get_or es i e) (so_far : s ≡ smallest_of (take i es)) where
    smallest_more : smallest_of (take (i + 1) es) ≡ cond (Between from to e.place) (min s e.place) s
    smallest_more =
        ap smallest_of (take_more es i e inside ∙ ap (λ x. take i es ++ (x ∷ [])) (sym at))
        ∙ smallest_push (take i es) e
        ∙ ap (λ n. cond (Between from to e.place) (min n e.place) n) (sym so_far)

    -- a smaller place of one more entry is the smallest
    pub smallest_takes : from ≤ e.place → e.place < s → e.place ≡ smallest_of (take (i + 1) es)
    smallest_takes low less =
        let between = and_from (leb from e.place) (ltb e.place to) (le-leb from e.place low) (lt-ltb e.place to (omega (arith, smallest_below (take i es), so_far))) in
        let picked : min s e.place ≡ e.place = omega arith in
        sym (smallest_more ∙ cond-true (Between from to e.place) (min s e.place) s between ∙ picked)

    -- one that is before `from` or no smaller leaves it
    pub smallest_keeps : (from ≤ e.place → s ≤ e.place) → s ≡ smallest_of (take (i + 1) es)
    smallest_keeps other =
        ⊎_elim
        (λ (passes : Between from to e.place ≡ true).
        let low : from ≤ e.place = leb-true from e.place (and_parts (leb from e.place) (ltb e.place to) passes).0 in
        let kept : min s e.place ≡ s = omega (arith, other low) in
        sym (smallest_more ∙ cond-true (Between from to e.place) (min s e.place) s passes ∙ kept))
        (λ (fails : Between from to e.place ≡ false). sym (smallest_more ∙ cond-false (Between from to e.place) (min s e.place) s fails))
        (cases_Bool (Between from to e.place))

  found_smallest : (es : List (Entry L)) (ps : List ℕ) → ps ≡ places_between from to es → then_some (ltb (fold min to ps) to) (fold min to ps) ≡ reduce min ps
  found_smallest es [] is = ap (λ b. then_some b to) (le-ltb to to (omega arith))
  found_smallest es (p ∷ ps) is =
      let first = found_between es p (subst (λ (ns : List ℕ). p ∈ ns) is (inl refl)) in
      let begins : min to p ≡ p = omega (arith, first.1) in
      let lowest = (least p ps).1 p (inl refl) in
      rw begins (ap (λ b. then_some b (fold min p ps)) (lt-ltb (fold min p ps) to (omega (arith, first.1, lowest))))

  -- the smallest that is below `to` is the least of the places there
  pub smallest_is_least : (es : List (Entry L)) → then_some (ltb (smallest_of es) to) (smallest_of es) ≡ reduce min (places_between from to es)
  smallest_is_least es = found_smallest es (places_between from to es) refl

module _ {L : Type 0} (k : Kind L) (laws : Lawful k) (es : List (Entry L)) (used size : ℕ) (kept : EntriesKept k es used size) (from to : ℕ) where
  abbrev xs : List (Entry L)
  xs = take used es

  seen_none : (q : ℕ) → Absent q xs → some_view k (entered k xs q) ≡ false
  seen_none q absent = ap (some_view k) (entered_absent k xs q absent) ∙ ap (λ n. not (eqb n 0)) laws.none_number

  next_of : (ps : List ℕ) → ps ≡ places_between from to xs → NextSome k (entries_meaning k es used size) from to (reduce min ps)
  next_of [] is = λ q low high. seen_none q (absent_between from to xs q low high (λ at. subst (λ (ps : List ℕ). q ∈ ps) (sym is) at))
  next_of (p ∷ ps) is =
      let smallest = least p ps in
      let found = found_between from to xs (fold min p ps) (subst (λ (ns : List ℕ). fold min p ps ∈ ns) is smallest.0) in (
        found.0,
        found.1,
        entered_some k size xs (fold min p ps) kept.apart found.2,
        λ q low high. seen_none q (absent_between from to xs q low (omega (arith, high, found.1)) (λ at.
            let lower : fold min p ps ≤ q = smallest.1 q (subst (λ (ns : List ℕ). q ∈ ns) (sym is) at) in
            omega (arith, lower, high))),
      )

  -- the least place that an entry in use has there is the next that is not none
  pub next_is_least : (r : Option ℕ) → r ≡ reduce min (places_between from to xs) → NextSome k (entries_meaning k es used size) from to r
  next_is_least r is = subst (NextSome k (entries_meaning k es used size) from to) (sym is) (next_of (places_between from to xs) refl)
