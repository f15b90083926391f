-- The ways of a put below the size of a sparse board, and that each keeps the entries right. Assumes nothing.
use Rattle.std.proofs.Common.{◌≡◌, ℕ, ◌+◌, ◌<◌, ◌≤◌, true, false, not, List, [], ◌∷◌, ◌++◌, length, get_or, take, set, Some, Ok, Err, sym, refl, ap, ◌∙◌, subst, arith}
use lib.Seq.{take-set-lt}
use Rattle.std.proofs.lemmas.List.{length-set, length-take-le, get_or_default, get_or-take, get_or-set_same, take_more_set, take-set}
use Rattle.std.proofs.lemmas.Bool.{eq-eqb, ne_eqb}
use Rattle.labels.specs.Kind.{Kind, Lawful, some_view}
use Rattle.terms.specs.Lists.{count}
use Rattle.terms.specs.declared.Refusal.TheVariants.{BoardFull}
use Rattle.boards.specs.declared.sparse.Entry.{Entry}
use Rattle.boards.specs.Meaning.{Meaning, occupied, Put}
use Rattle.boards.specs.Entries.{entered, entries_meaning, Absent, Apart, EntriesKept}
use Rattle.terms.proofs.Counting.{count_none, count_added}
use Rattle.boards.proofs.Joins.{either_none, none_from_either}
use Rattle.boards.proofs.Puts.{put_full, put_joined, room_held, room_for_none, room_left, no_room_left}
use Rattle.boards.proofs.Entries.{FirstEntry, entered_here, entered_beyond, entered_absent, entered_first, entered_push, entered_push_other, entered_set_other, apart_label, apart_set, apart_push}

module _ {L : Type 0} (k : Kind L) where
  -- an entry joined is the same whatever stands for one past the end
  pub joined_at :
      (es : List (Entry L)) (i : ℕ) (t l : L) (x y : Entry L)
      → i < length es → l ≡ k.either (get_or es i x).label t → (blank : Entry L)
      → set es i (record { place = (get_or es i y).place; label = l }) ≡ set es i (record { place = (get_or es i blank).place; label = k.either (get_or es i blank).label t })
  joined_at es i t l x y inside is blank = rw (is, get_or_default es i x blank inside, get_or_default es i y blank inside) refl

  none_seen : (l : L) → k.number l ≡ 0 → some_view k l ≡ false
  none_seen l none = ap not (eq-eqb (k.number l) 0 none)

  some_seen : (l : L) → (k.number l ≡ 0 → ⊥) → some_view k l ≡ true
  some_seen l some = ap not (ne_eqb (k.number l) 0 some)

  -- the places that are not none are as many as the entries
  occupied_entries : Lawful k → (size : ℕ) (es : List (Entry L)) → Apart k size es → count (λ p. some_view k (entered k es p)) size ≡ length es
  occupied_entries laws size [] apart = count_none (λ p. some_view k k.none) size (λ p. none_seen k.none laws.none_number)
  occupied_entries laws size (e ∷ es) apart =
      let fails = ap (some_view k) (entered_absent k es e.place apart.2) ∙ none_seen k.none laws.none_number in
      let passes = ap (some_view k) (entered_here k e es e.place refl) ∙ some_seen e.label apart.1 in
      let more = count_added (λ p. some_view k (entered k es p)) (λ p. some_view k (entered k (e ∷ es) p)) size e.place apart.0 fails passes (λ q other. ap (some_view k) (entered_beyond k e es q (λ r. other (sym r)))) in
      omega (arith, more, occupied_entries laws size es apart.3)

module _ {L : Type 0} (k : Kind L) (laws : Lawful k) (es : List (Entry L)) (used size : ℕ) (kept : EntriesKept k es used size) (p : ℕ) (t : L) (inside : p < size) where
  -- those in use
  abbrev xs : List (Entry L)
  xs = take used es

  abbrev old : Meaning L
  old = entries_meaning k es used size

  -- the board with other entries, of which so many are in use
  abbrev with_entries : List (Entry L) → ℕ → Meaning L
  with_entries new count = entries_meaning k new count size

  used_length : length xs ≡ used
  used_length = length-take-le used es kept.count_fits

  all_used : occupied k old ≡ used
  all_used = occupied_entries k laws size xs kept.apart ∙ used_length

  -- where no entry has the place
  module _ (absent : Absent p xs) where
    was_none : k.number (entered k xs p) ≡ 0
    was_none = ap k.number (entered_absent k xs p absent) ∙ laws.none_number

    becomes_added : k.number t ≡ k.number (k.either (entered k xs p) t)
    becomes_added = sym (ap (λ l. k.number (k.either l t)) (entered_absent k xs p absent) ∙ either_none k laws t)

    -- none is put: nothing changes
    pub put_nothing : k.number t ≡ 0 → Put k old p t (Ok tt) old
    put_nothing none =
        put_joined k old p t old inside (room_for_none k old p t (none_seen k t none)) (record {
          size = refl;
          capacity = refl;
          here = was_none ∙ sym none ∙ becomes_added;
          elsewhere = λ q other. refl;
        })

    module _ (some : k.number t ≡ 0 → ⊥) where
      -- no entry is free
      pub put_refused : length es ≤ used → Put k old p t (Err BoardFull) old
      put_refused full =
          put_full k old p t old inside
          (no_room_left k old p t (none_seen k (entered k xs p) was_none) (some_seen k t some) (omega (arith, all_used)))
          (record { size = refl; capacity = refl; label = λ q. refl })

      -- the next free entry is taken
      module _ (free : used < length es) where
        abbrev appended : Entry L
        appended = record { place = p; label = t }

        abbrev longer : List (Entry L)
        longer = set es used appended

        in_use : take (used + 1) longer ≡ xs ++ (appended ∷ [])
        in_use = take_more_set es used appended free

        pub append_fits : used + 1 ≤ length longer
        append_fits = omega (arith, length-set es used appended)

        pub append_apart : Apart k size (take (used + 1) longer)
        append_apart = subst (Apart k size) (sym in_use) (apart_push k size xs appended inside some absent kept.apart)

        pub put_append : Put k old p t (Ok tt) (with_entries longer (used + 1))
        put_append =
            put_joined k old p t (with_entries longer (used + 1)) inside (room_left k old p t (omega (arith, all_used))) (record {
              size = refl;
              capacity = length-set es used appended;
              here = ap (λ ys. k.number (entered k ys p)) in_use ∙ ap k.number (entered_push k xs appended absent) ∙ becomes_added;
              elsewhere = λ q other. ap (λ ys. k.number (entered k ys q)) in_use ∙ ap k.number (entered_push_other k xs appended q (λ r. other (sym r)));
            })

  -- where an entry has the place
  module _ (i : ℕ) (first : FirstEntry xs p (Some i)) (new : List (Entry L)) (is : (blank : Entry L) → new ≡ set es i (record { place = (get_or es i blank).place; label = k.either (get_or es i blank).label t })) where
    -- the entry with the label's views added to its own
    abbrev joined_entry : Entry L → Entry L
    joined_entry e = record { place = e.place; label = k.either e.label t }

    abbrev blank : Entry L
    blank = record { place = p; label = k.none }

    abbrev joined : Entry L
    joined = joined_entry (get_or xs i blank)

    before_used : i < used
    before_used = omega (arith, used_length, first.0)

    changed : take used new ≡ set xs i joined
    changed =
        ap (take used) (is blank)
        ∙ take-set-lt used es i (joined_entry (get_or es i blank)) before_used
        ∙ ap (λ e. set xs i (joined_entry e)) (sym (get_or-take used es i blank before_used))

    same_length : length new ≡ length es
    same_length = ap length (is blank) ∙ length-set es i (joined_entry (get_or es i blank))

    was : entered k xs p ≡ (get_or xs i blank).label
    was = entered_first k xs i blank p first.0 first.1 (first.2 blank)

    was_some : k.number (get_or xs i blank).label ≡ 0 → ⊥
    was_some = apart_label k size xs i blank first.0 kept.apart

    becomes_joined : entered k (set xs i joined) p ≡ joined.label
    becomes_joined =
        let written : get_or (set xs i joined) i blank ≡ joined = get_or-set_same xs i joined blank first.0 in
        entered_first k (set xs i joined) i blank p (omega (arith, first.0, length-set xs i joined)) (subst (Absent p) (sym (take-set xs i joined)) first.1) (ap (λ e. e.place) written ∙ first.2 blank)
        ∙ ap (λ e. e.label) written

    pub join_fits : used ≤ length new
    join_fits = omega (arith, same_length, kept.count_fits)

    pub join_apart : Apart k size (take used new)
    join_apart =
        subst (Apart k size) (sym changed) (apart_set k size xs i blank joined refl (λ none. was_some (none_from_either k laws (get_or xs i blank).label t none)) kept.apart)

    pub put_join : Put k old p t (Ok tt) (with_entries new used)
    put_join =
        put_joined k old p t (with_entries new used) inside (room_held k old p t (ap (some_view k) was ∙ some_seen k (get_or xs i blank).label was_some)) (record {
          size = refl;
          capacity = same_length;
          here = ap (λ ys. k.number (entered k ys p)) changed ∙ ap k.number (becomes_joined ∙ ap (λ l. k.either l t) (sym was));
          elsewhere = λ q other. ap (λ ys. k.number (entered k ys q)) changed ∙ ap k.number (entered_set_other k xs i blank joined q refl (λ r. other (sym r ∙ first.2 blank)));
        })
