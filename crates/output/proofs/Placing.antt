-- Writing from a place reached on. Assumes nothing.
use Rattle.std.proofs.Common.{◌≡◌, ℕ, suc, ◌+◌, ◌-◌, ◌<◌, ◌≤◌, List, [], ◌∷◌, ◌++◌, length, take, drop, IsErrAnd, Ok, Err, Result, sym, refl, ap, ◌∙◌, subst, arith}
use Rattle.std.proofs.lemmas.List.{take-append-drop, append_assoc, append-nil, take_all}
use Rattle.std.proofs.lemmas.Result.{err_from_is_err_and}
use Rattle.terms.specs.declared.Refusal.{Refusal}
use Rattle.terms.specs.declared.Refusal.TheVariants.{MemoryTooShort}
use Rattle.output.specs.declared.Output.{Output}
use Rattle.output.specs.From.{PutsFrom}
use Rattle.output.specs.Puts.{Puts}
use Rattle.output.proofs.Putting.{written_long, count_moves}

module _ {X : Type 0} where
  take_past : (xs ys : List X) (j : ℕ) → take (length xs + j) (xs ++ ys) ≡ xs ++ take j ys
  take_past [] ys j = let e : 0 + j ≡ j = omega arith in ap (λ n. take n ys) e
  take_past (x ∷ xs) ys j =
      let e : suc (length xs) + j ≡ suc (length xs + j) = omega arith in
      ap (λ n. take n (x ∷ (xs ++ ys))) e ∙ ap (λ z. x ∷ z) (take_past xs ys j)

  -- nothing is put within the memory
  pub put_nothing : (old : List X) (at : ℕ) → at ≤ length old → PutsFrom old (Ok at) [] (Ok at) old
  put_nothing old at h = (omega arith, h, sym (take-append-drop at old))

  -- at or past the end of the memory no item fits
  pub no_room : (old items : List X) (at : ℕ) → length old ≤ at → length old < at + length items → PutsFrom old (Ok at) items (Err MemoryTooShort) old
  no_room old items at h short =
      let none : length old - at ≡ 0 = omega arith in
      (refl, short, sym (ap (λ n. take at old ++ take n items) none ∙ append-nil (take at old) ∙ take_all at old h))

  -- where nothing is refused, so are items
  refused_before : (old items : List X) (at : Result ℕ Refusal) (e : Refusal) → PutsFrom old at [] (Err e) old → PutsFrom old at items (Err e) old
  refused_before old items (Ok at) e p = subst (λ f. PutsFrom old (Ok at) items (Err f) old) (sym p.0) (no_room old items at (omega (arith, p.1)) (omega (arith, p.1)))
  refused_before old items (Err d) e p = (p.0, refl)

  -- a refusal that leaves by a `?` before any item
  pub left_before :
      (old items : List X) (at r : Result ℕ Refusal) (e : Refusal) → PutsFrom old at [] (Err e) old → IsErrAnd r (λ y. y ≡ e) → PutsFrom old at items r old
  left_before old items at r e p left =
      let by = err_from_is_err_and r left in
      subst (λ (s : Result ℕ Refusal). PutsFrom old at items s old) (sym (by.1 ∙ ap Err by.2)) (refused_before old items at e p)

  -- all items are put from the place on
  pub put_from :
      {memory back items : List X} {place n : ℕ} {old new : Output X} (at : Result ℕ Refusal) → PutsFrom memory at [] (Ok place) memory → old.memory.now ≡ memory
      → old.count ≡ place → back ≡ new.memory.now → n ≡ new.count → Puts old items (Ok tt) new → PutsFrom memory at items (Ok n) back
  put_from (Err d) p over start end number q = absurd p
  put_from {memory} {back} {items} {place} {n} {old} {new} (Ok at) p over start end number q =
      let moves = count_moves old new items q in
      let long = q.as_long in
      let room = ap length over in
      let here : old.count ≡ at = omega (arith, p.0, start) in
      let front : take new.count new.memory.now ≡ take at memory ++ items =
      q.leaves.0 ∙ ap (λ z. take old.count z ++ items) over ∙ ap (λ k. take k memory ++ items) here in (
        omega (arith, moves, here, number),
        omega (arith, new.within, long, number, room),
        end ∙ sym (take-append-drop new.count new.memory.now) ∙ ap (λ z. z ++ drop new.count new.memory.now) front
            ∙ ap (λ z. (take at memory ++ items) ++ z) (q.leaves.1 ∙ ap (drop new.count) over ∙ ap (λ k. drop k memory) (sym number))
            ∙ append_assoc (take at memory) items (drop n memory),
      )

  -- or as many as fit
  pub put_from_cut :
      {memory back items : List X} {place : ℕ} {e : Refusal} {old new : Output X} (at r : Result ℕ Refusal) → PutsFrom memory at [] (Ok place) memory
      → old.memory.now ≡ memory → old.count ≡ place → back ≡ new.memory.now → IsErrAnd r (λ y. y ≡ e) → Puts old items (Err e) new → PutsFrom memory at items r back
  put_from_cut (Err d) r p over start end left q = absurd p
  put_from_cut {memory} {back} {items} {place} {e} {old} {new} (Ok at) r p over start end left q =
      let by = err_from_is_err_and r left in
      let room = ap length over in
      let here : old.count ≡ at = omega (arith, p.0, start) in
      let long = written_long old in
      let inside = old.within in
      let split : length old.memory.now ≡ length (take old.count old.memory.now) + (length memory - at) = omega (arith, long, here, room, inside) in
      let whole : PutsFrom memory (Ok at) items (Err e) back = (
        q.leaves.0,
        omega (arith, q.leaves.1, here, room),
        end ∙ q.leaves.3 ∙ ap (λ k. take k (take old.count old.memory.now ++ items)) split
            ∙ take_past (take old.count old.memory.now) items (length memory - at)
            ∙ ap (λ z. take old.count z ++ take (length memory - at) items) over ∙ ap (λ k. take k memory ++ take (length memory - at) items) here,
      ) in
      subst (λ (s : Result ℕ Refusal). PutsFrom memory (Ok at) items s back) (sym (by.1 ∙ ap Err by.2)) whole
