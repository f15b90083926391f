-- The lines of a node, by the places of its labels. Assumes nothing.
use Rattle.std.proofs.Common.{◌≡◌, ℕ, ◌+◌, ◌-◌, ◌*◌, ◌<◌, ◌≤◌, true, false, List, [], ◌∷◌, Ok, Err, Result, sym, ap, ◌∙◌, subst, arith}
use Rattle.std.specs.List.{flat_map}
use Rattle.labels.specs.Kind.{Kind, some_view}
use Rattle.terms.specs.declared.Sizes.{Sizes}
use Rattle.terms.specs.declared.Refusal.{Refusal}
use Rattle.terms.specs.Lists.{counting}
use Rattle.terms.specs.Places.{place, member}
use Rattle.boards.specs.Meaning.{Meaning}
use Rattle.output.specs.declared.Output.{Output}
use Rattle.output.specs.Puts.{Puts}
use Rattle.texts.specs.Lines.{values}
use Rattle.listings.specs.Listing.{label_line, node_lines}
use Rattle.listings.proofs.Counts.{front, puts_next, puts_rest, puts_front_cut}

module _ {L : Type 0} (k : Kind L) (m : Meaning L) (top x : ℕ) where
  -- the line of the concept B of a node whose places begin at `top`
  abbrev line : (B : ℕ) → List ℕ
  line B = label_line (some_view k (m.label (top + B))) x B (k.number (m.label (top + B)))

  -- the lines of the places of the node before `from`, concept 0 left out
  abbrev pub lines_before : (from : ℕ) → List ℕ
  lines_before from = front line 1 (from - (top + 1))

  -- no label from one place up to another
  abbrev NoneBetween : (from to : ℕ) → Type 0
  NoneBetween from to = (q : ℕ) → from ≤ q → q < to → some_view k (m.label q) ≡ false

  no_line : (B : ℕ) → some_view k (m.label (top + B)) ≡ false → line B ≡ []
  no_line B none = ap (λ shown. label_line shown x B (k.number (m.label (top + B)))) none

  no_lines : (from to : ℕ) → top + 1 ≤ from → NoneBetween from to → (j : ℕ) → 1 + (from - (top + 1)) ≤ j → j < 1 + (to - (top + 1)) → line j ≡ []
  no_lines from to past none j low high = no_line j (none (top + j) (omega arith) (omega arith))

  -- the line of a label that is not none
  shown_line :
      (p : ℕ) (l : L) → top + 1 ≤ p → l ≡ m.label p → some_view k (m.label p) ≡ true
      → values x ((p - top) ∷ (k.number l ∷ [])) ≡ line (1 + (p - (top + 1)))
  shown_line p l past is some =
      let B = 1 + (p - (top + 1)) in
      let concept : p - top ≡ B = omega arith in
      let here : p ≡ top + B = omega arith in
      ap (λ b. values x (b ∷ (k.number l ∷ []))) concept ∙ ap (λ e. values x (B ∷ (k.number e ∷ []))) (is ∙ ap (λ q. m.label q) here)
      ∙ sym (ap (λ shown. label_line shown x B (k.number (m.label (top + B)))) (ap (λ q. some_view k (m.label q)) (sym here) ∙ some))

  -- the line of the next label that is not none
  pub row_next :
      {old mid new : Output ℕ} {r : Result (Unit {0}) Refusal} (from p : ℕ) (l : L) → top + 1 ≤ from → from ≤ p → NoneBetween from p → l ≡ m.label p
      → some_view k (m.label p) ≡ true → Puts old (lines_before from) (Ok tt) mid → Puts mid (values x ((p - top) ∷ (k.number l ∷ []))) r new
      → Puts old (lines_before (p + 1)) r new
  row_next {old} {mid} {new} {r} from p l past le none is some before here =
      let more : p - (top + 1) + 1 ≡ p + 1 - (top + 1) = omega arith in
      subst (λ n. Puts old (front line 1 n) r new) more
      (puts_next line 1 (from - (top + 1)) (p - (top + 1)) (omega arith) (no_lines from p past none) before
      (subst (λ z. Puts mid z r new) (shown_line p l (omega arith) is some) here))

  module _ (z : Sizes) (start : top ≡ place z (member x 0)) {old new : Output ℕ} where
    -- the lines before the place past the node's last are its lines
    row_whole : {r : Result (Unit {0}) Refusal} → Puts old (front line 1 (z.concepts - 1)) r new → Puts old (node_lines k z m x) r new
    row_whole {r} =
        let first : top ≡ x * z.concepts = omega arith in
        subst
        (λ n. Puts old
        (flat_map (λ B. label_line (some_view k (m.label (n + B))) x B (k.number (m.label (n + B)))) (counting 1 (z.concepts - 1))) r new)
        first

    -- no label follows
    pub row_ends :
        {r : Result (Unit {0}) Refusal} (from : ℕ) → top + 1 ≤ from → from - (top + 1) ≤ z.concepts - 1 → NoneBetween from (top + z.concepts)
        → Puts old (lines_before from) r new → Puts old (node_lines k z m x) r new
    row_ends from past le none h =
        row_whole
        (puts_rest line 1 (from - (top + 1)) (z.concepts - 1) le
        (λ j low high. no_lines from (top + z.concepts) past none j low (omega arith)) h)

    -- the memory ran short
    pub row_cut :
        {e : Refusal} (p : ℕ) → top + 1 ≤ p → p < top + z.concepts → Puts old (lines_before (p + 1)) (Err e) new → Puts old (node_lines k z m x) (Err e) new
    row_cut p past below h = row_whole (puts_front_cut line 1 (p + 1 - (top + 1)) (z.concepts - 1) (omega arith) h)
