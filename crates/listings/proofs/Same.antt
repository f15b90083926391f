-- Books whose sentences have the same numbers have the same settled labels, by number, and the same listing. Assumes nothing.
use Rattle.std.proofs.Common.{◌≡◌, ℕ, ◌-◌, ◌<◌, ◌≤◌, true, not, eqb, List, [], ◌∷◌, ◌++◌, map, sym, refl, ap, ◌∙◌, subst, ap₂, arith}
use native.Mathlib.Decide.{dec_lt}
use Rattle.std.specs.List.{flat_map}
use Rattle.labels.specs.Kind.{Kind, Lawful, some_view}
use Rattle.terms.specs.declared.Sizes.{Sizes}
use Rattle.terms.specs.declared.Sentence.{Sentence}
use Rattle.terms.specs.Lists.{counting}
use Rattle.terms.specs.Places.{nodes, places, place, member}
use Rattle.terms.specs.Sentences.{holdable}
use Rattle.terms.proofs.Counting.{count_longer}
use Rattle.terms.proofs.Placing.{at_place, within_range}
use Rattle.theory.specs.Rules.{OneSettled, Overfull}
use Rattle.theory.proofs.Fullness.{settling}
use Rattle.theory.proofs.Names.{sound_book}
use Rattle.boards.specs.Meaning.{Meaning}
use Rattle.settling.specs.Settled.{label_on, SettledBoard, Brought}
use Rattle.texts.specs.Lines.{numbered}
use Rattle.texts.proofs.Relabelled.{least_alike}
use Rattle.listings.specs.Listing.{label_line, line_for, node_lines, listing, listing_header}

joined_same : (f g : ℕ → List ℕ) → ((x : ℕ) → f x ≡ g x) → (xs : List ℕ) → flat_map f xs ≡ flat_map g xs
joined_same f g same_at [] = refl
joined_same f g same_at (x ∷ xs) = ap₂ (λ a b. a ++ b) (same_at x) (joined_same f g same_at xs)

module _ {L : Type 0} (k : Kind L) where
  -- a listing speaks of numbers only
  pub listing_same : (z : Sizes) (m n : Meaning L) → ((p : ℕ) → k.number (n.label p) ≡ k.number (m.label p)) → listing k z n ≡ listing k z m
  listing_same z m n numbers =
      ap (λ l. listing_header ++ l)
      (joined_same (node_lines k z n) (node_lines k z m)
      (λ x. joined_same (line_for k z n x) (line_for k z m x)
      (λ B. ap (λ j. label_line (not (eqb j 0)) x B j) (numbers (place z (member x B)))) (counting 1 (z.concepts - 1)))
      (counting 0 (nodes z)))

  module _ (laws : Lawful k) where
    module _ (z : Sizes) (cells : ℕ) (ss : List (Sentence L)) (can_be : holdable cells z ss ≡ true) where
      one : OneSettled k z ss
      one = settling k laws z cells ss can_be

      pub settled_same : (m n : Meaning L) → SettledBoard k z ss m → SettledBoard k z ss n → (p : ℕ) → k.number (n.label p) ≡ k.number (m.label p)
      settled_same m n h i p = go (dec_lt p (places z))
        where
          go : Dec (p < places z) → k.number (n.label p) ≡ k.number (m.label p)
          go (yes l) =
              let f = at_place z (sound_book cells z ss can_be).has_top p l in
              let alike = one.alike (label_on k z n) (label_on k z m) i.least h.least f.0 (within_range z f.0 f.1) in
              subst (λ (q : ℕ). k.number (n.label q) ≡ k.number (m.label q)) f.2 alike
          go (no l) = i.none_past p (omega arith) ∙ sym (h.none_past p (omega arith))

      -- what a board holds it has not too many of
      pub not_both : (old m : Meaning L) (capacity : ℕ) → places z ≤ old.size → capacity ≡ old.capacity → Brought k z ss old m → Overfull k z ss capacity → ⊥
      not_both old m capacity room e b over =
          let size = b.size in
          let many = (one.overfull_counts m.label b.board.least capacity).0 over in
          let more = count_longer (λ p. some_view k (m.label p)) (places z) m.size (omega (arith, size)) in
          let held = b.holds_them in
          omega (arith, many, more, held, e)

    -- a board settled for the one book is settled for the other
    pub board_alike : (z : Sizes) (ss ts : List (Sentence L)) → map (numbered k) ts ≡ map (numbered k) ss → (m : Meaning L) → SettledBoard k z ts m → SettledBoard k z ss m
    board_alike z ss ts e m h = record { least = least_alike k laws z ss ts e (label_on k z m) h.least; none_past = h.none_past }

    -- labels that are too many for the one book are too many for the other
    pub overfull_alike :
        (z : Sizes) (cells : ℕ) (ss ts : List (Sentence L)) → holdable cells z ss ≡ true → holdable cells z ts ≡ true → map (numbered k) ts ≡ map (numbered k) ss
        → (m : Meaning L) → SettledBoard k z ss m → (capacity : ℕ) → Overfull k z ts capacity → Overfull k z ss capacity
    overfull_alike z cells ss ts can_be can_be' e m h capacity over =
        ((one z cells ss can_be).overfull_counts m.label h.least capacity).1
        (((one z cells ts can_be').overfull_counts m.label (board_alike z ts ss (sym e) m h).least capacity).0 over)

    -- the two books have one listing
    pub listing_one :
        (z : Sizes) (cells : ℕ) (ss ts : List (Sentence L)) → holdable cells z ss ≡ true → map (numbered k) ts ≡ map (numbered k) ss
        → (m n : Meaning L) → SettledBoard k z ss m → SettledBoard k z ts n → listing k z n ≡ listing k z m
    listing_one z cells ss ts can_be e m n h i = listing_same z m n (settled_same z cells ss can_be m n h (board_alike z ss ts e n i))
