-- One writing after another is one writing, and a whole one from the start of a memory fills it. Assumes nothing.
use Rattle.std.proofs.Common.{◌≡◌, ℕ, ◌+◌, ◌-◌, ◌<◌, ◌≤◌, List, [], ◌∷◌, ◌++◌, length, get_or, take, drop, IsErrAnd, Ok, Err, Result, sym, refl, ap, ◌∙◌, subst, arith}
use Rattle.std.specs.List.{flat_map}
use Rattle.std.proofs.lemmas.Grind.{flat_map-append}
use Rattle.std.proofs.lemmas.List.{take-append-drop, append_assoc, append-nil, length-append, length-take-le, drop-drop, take-append-le, take_all, take_more, flat_map_more}
use Rattle.std.proofs.lemmas.Result.{err_from_is_err_and}
use Rattle.terms.specs.declared.Refusal.{Refusal}
use Rattle.terms.specs.Refusals.{Fills}
use Rattle.output.specs.declared.Output.{Output}
use Rattle.output.specs.Puts.{written, Leaves, Puts}

-- how a call of this kind ends
abbrev Outcome : Type 0
Outcome = Result (Unit {0}) Refusal

module _ {X : Type 0} where
  -- how many items are written
  pub written_long : (o : Output X) → length (written o) ≡ o.count
  written_long o = length-take-le o.count o.memory.now o.within

  -- an accepted writing moves the place by as many items as it has
  pub count_moves : (old new : Output X) (xs : List X) → Puts old xs (Ok tt) new → new.count ≡ old.count + length xs
  count_moves old new xs p =
      let a = written_long old in
      let b = written_long new in
      let e = ap length p.leaves.0 in
      let both = length-append (written old) xs in
      omega (arith, a, b, e, both)

  joined : (old mid new : Output X) (xs ys : List X) (r : Outcome) → Puts old xs (Ok tt) mid → Puts mid ys r new → Leaves old (xs ++ ys) r new
  joined old mid new xs ys (Ok u) p q =
      let moves = count_moves mid new ys q in
      let split : new.count ≡ mid.count + (new.count - mid.count) = omega (arith, moves) in (
        q.leaves.0 ∙ ap (λ z. z ++ ys) p.leaves.0 ∙ append_assoc (written old) xs ys,
        q.leaves.1 ∙ ap (λ n. drop n mid.memory.now) split ∙ sym (drop-drop (new.count - mid.count) mid.count mid.memory.now)
            ∙ ap (drop (new.count - mid.count)) p.leaves.1 ∙ drop-drop (new.count - mid.count) mid.count old.memory.now
            ∙ ap (λ n. drop n old.memory.now) (sym split),
      )
  joined old mid new xs ys (Err e) p q =
      let moves = count_moves old mid xs p in
      let long = p.as_long in
      let both = length-append xs ys in (
        q.leaves.0,
        omega (arith, q.leaves.1, moves, long, both),
        q.leaves.2 ∙ long,
        q.leaves.3 ∙ ap (λ n. take n (written mid ++ ys)) long
            ∙ ap (take (length old.memory.now)) (ap (λ z. z ++ ys) p.leaves.0 ∙ append_assoc (written old) xs ys),
      )

  -- two writings one after the other write the joined items
  pub puts_then : {old mid new : Output X} {xs ys zs : List X} {r : Outcome} → zs ≡ xs ++ ys → Puts old xs (Ok tt) mid → Puts mid ys r new → Puts old zs r new
  puts_then {old} {mid} {new} {xs} {ys} {zs} {r} e p q =
      subst (λ z. Puts old z r new) (sym e)
      (record { same_memory = q.same_memory ∙ p.same_memory; as_long = q.as_long ∙ p.as_long; leaves = joined old mid new xs ys r p q })

  -- where the first is refused, the whole is
  pub puts_cut : {old new : Output X} {xs zs : List X} {e : Refusal} (ys : List X) → zs ≡ xs ++ ys → Puts old xs (Err e) new → Puts old zs (Err e) new
  puts_cut {old} {new} {xs} {zs} {e} ys same p =
      let both = length-append xs ys in
      let before = written_long old in
      let all = length-append (written old) xs in
      subst (λ z. Puts old z (Err e) new) (sym same)
      (record {
        same_memory = p.same_memory;
        as_long = p.as_long;
        leaves = (
          p.leaves.0,
          omega (arith, p.leaves.1, both),
          p.leaves.2,
          p.leaves.3 ∙ sym (take-append-le (length old.memory.now) (written old ++ xs) ys (omega (arith, p.leaves.1, before, all)))
              ∙ ap (take (length old.memory.now)) (append_assoc (written old) xs ys),
        );
      })

  -- what leaves by a `?` is the refusal that came
  pub puts_left : {old new : Output X} {xs : List X} {e : Refusal} {r : Outcome} → IsErrAnd r (λ y. y ≡ e) → Puts old xs (Err e) new → Puts old xs r new
  puts_left {old} {new} {xs} {e} {r} left =
      let by = err_from_is_err_and r left in
      subst (λ (s : Outcome). Puts old xs s new) (sym (by.1 ∙ ap Err by.2))

  -- nothing is put
  pub puts_nothing : (o : Output X) → Puts o [] (Ok tt) o
  puts_nothing o = record { same_memory = refl; as_long = refl; leaves = (sym (append-nil (written o)), refl) }

  module _ {Y : Type 0} (items : Y → List X) (ys : List Y) {old new : Output X} {i : ℕ} where
    -- the items of each element of a list, one element more
    pub puts_more :
        {mid : Output X} {y : Y} {r : Outcome} → i < length ys → y ≡ get_or ys i y → Puts old (flat_map items (take i ys)) (Ok tt) mid → Puts mid (items y) r new
        → Puts old (flat_map items (take (i + 1) ys)) r new
    puts_more {mid} {y} below is =
        puts_then (ap (flat_map items) (take_more ys i y below ∙ ap (λ e. take i ys ++ (e ∷ [])) (sym is)) ∙ sym (flat_map_more items [] (take i ys) y))

    -- refused at an element
    pub puts_more_cut :
        {mid : Output X} {y : Y} {e : Refusal} → i < length ys → y ≡ get_or ys i y → Puts old (flat_map items (take i ys)) (Ok tt) mid
        → Puts mid (items y) (Err e) new → Puts old (flat_map items ys) (Err e) new
    puts_more_cut below is p q =
        puts_cut (flat_map items (drop (i + 1) ys))
        (ap (flat_map items) (sym (take-append-drop (i + 1) ys)) ∙ flat_map-append items (take (i + 1) ys) (drop (i + 1) ys))
        (puts_more below is p q)

    -- and those of all its elements
    pub puts_all : {r : Outcome} → length ys ≤ i → Puts old (flat_map items (take i ys)) r new → Puts old (flat_map items ys) r new
    puts_all {r} past = subst (λ es. Puts old (flat_map items es) r new) (take_all i ys past)

  -- from the start of a memory, the items and their number fill it
  pub puts_fill :
      {old new : Output X} {items memory back : List X} {n : ℕ} → old.memory.now ≡ memory → old.count ≡ 0 → back ≡ new.memory.now → n ≡ new.count
      → Puts old items (Ok tt) new → Fills items memory (Ok n) back
  puts_fill {old} {new} {items} {memory} {back} {n} over start end number p =
      let moves = count_moves old new items p in
      let long = p.as_long in
      let room = ap length over in
      let whole : take new.count new.memory.now ≡ items = p.leaves.0 ∙ ap (λ n. take n old.memory.now ++ items) start in (
        omega (arith, moves, start, number),
        omega (arith, new.within, long, number, room),
        end ∙ sym (take-append-drop new.count new.memory.now) ∙ ap (λ z. z ++ drop new.count new.memory.now) whole
            ∙ ap (λ z. items ++ z) (p.leaves.1 ∙ ap (drop new.count) over ∙ ap (λ n. drop n memory) (sym number)),
      )

  -- or as many as fit
  pub puts_fill_cut :
      {old new : Output X} {items memory back : List X} {e : Refusal} (r : Result ℕ Refusal) → old.memory.now ≡ memory → old.count ≡ 0 → back ≡ new.memory.now
      → IsErrAnd r (λ y. y ≡ e) → Puts old items (Err e) new → Fills items memory r back
  puts_fill_cut {old} {new} {items} {memory} {back} {e} r over start end left p =
      let by = err_from_is_err_and r left in
      let room = ap length over in
      let whole : Fills items memory (Err e) back = (
        p.leaves.0,
        omega (arith, p.leaves.1, start, room),
        end ∙ p.leaves.3 ∙ ap (λ n. take (length old.memory.now) (take n old.memory.now ++ items)) start ∙ ap (λ n. take n items) room,
      ) in
      subst (λ (s : Result ℕ Refusal). Fills items memory s back) (sym (by.1 ∙ ap Err by.2)) whole
