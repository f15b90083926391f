-- A line whose numbers are read, and one of them is too large for its field. Assumes nothing.
use Rattle.std.proofs.Common.{◌≡◌, ℕ, ◌^◌, ◌<◌, List, [], ◌∷◌, ◌++◌, get_or, Some, None, Option, MatchOption, codes, sym, refl, ap, ◌∙◌, subst, arith}
use Rattle.std.proofs.lemmas.Slice.Eq.{text_from_reads}
use Rattle.terms.specs.declared.Concept.{Concept}
use Rattle.terms.specs.declared.Node.{Node}
use Rattle.terms.specs.declared.Sentence.{Sentence}
use Rattle.runs.specs.declared.Request.TheVariants as request
use Rattle.scripts.specs.declared.BoardPlan.TheVariants as plan
use Rattle.scripts.specs.Lines.{fields, MemoryFits, FieldsFit}
use Rattle.scripts.specs.Reading.{ReadsNumbers, ReadsCall, label_call}
use Rattle.scripts.specs.Setups.{ReadsBoard, ReadsMemory}
use Rattle.scripts.proofs.Fields.{only_these}

-- the number at a place has so many bits
abbrev pub At : ℕ → ℕ → List ℕ → Type 0
At place bits ns = get_or ns place 0 < 2 ^ bits

-- a line that is neither board's
pub no_board : (line : List ℕ) → ReadsMemory (codes "board dense") line None → ReadsNumbers 2 (codes "board sparse") line None → ReadsBoard line None
no_board line dense sparse (plan.Dense cells) fit e = dense cells fit e
no_board line dense sparse (plan.Sparse size entries) fit e =
    sparse (size ∷ (entries ∷ [])) refl (omega (arith, fit.0), (omega (arith, fit.1), tt)) e

module _ (line ns : List ℕ) where
  pub no_size :
      ReadsNumbers 3 (codes "size") line (Some ns) → (At 0 16 ns × At 1 16 ns × At 2 16 ns → ⊥) → ReadsCall request.Size line None
  no_size read large z fit e =
      large (subst (λ l. At 0 16 l × At 1 16 l × At 2 16 l)
      (sym (only_these 3 (codes "size") line ns (z.concepts ∷ (z.roles ∷ (z.individuals ∷ []))) read refl
      (omega (arith, fit.0), (omega (arith, fit.1.0), (omega (arith, fit.1.1.0), tt))) e))
      (fit.0, fit.1.0, fit.1.1.0))

  pub no_entry :
      ReadsNumbers 6 (codes "enter") line (Some ns) → (At 0 8 ns × At 1 16 ns × At 2 16 ns × At 3 16 ns × At 4 16 ns → ⊥) → ReadsCall request.Enter line None
  no_entry read large s fit e =
      large (subst (λ l. At 0 8 l × At 1 16 l × At 2 16 l × At 3 16 l × At 4 16 l)
      (sym (only_these 6 (codes "enter") line ns (s.form ∷ (s.first ∷ (s.second ∷ (s.role ∷ (s.third ∷ (s.label ∷ [])))))) read refl
      (omega (arith, fit.0), (omega (arith, fit.1.0), (omega (arith, fit.1.1.0), (omega (arith, fit.1.1.1.0), (omega (arith, fit.1.1.1.1.0), (fit.2, tt)))))) e))
      (fit.0, fit.1.0, fit.1.1.0, fit.1.1.1.0, fit.1.1.1.1.0))

  -- numbers that all fit are those of a call
  pub entry_read :
      ReadsNumbers 6 (codes "enter") line (Some ns) → (s : Sentence ℕ)
      → (get_or ns 0 0 ≡ s.form) × (get_or ns 1 0 ≡ s.first) × (get_or ns 2 0 ≡ s.second) × (get_or ns 3 0 ≡ s.role) × (get_or ns 4 0 ≡ s.third) × (get_or ns 5 0 ≡ s.label)
      → FieldsFit (request.Enter s) → ReadsCall request.Enter line (Some (request.Enter s))
  entry_read read s same fit =
      let are : ns ≡ s.form ∷ (s.first ∷ (s.second ∷ (s.role ∷ (s.third ∷ (s.label ∷ []))))) =
      text_from_reads ns _ read.0 (same.0, (same.1, (same.2, (same.3, (same.4, (same.5, tt)))))) in
      (s, refl, fit, read.2 ∙ ap (λ l. codes "enter" ++ fields l) are)

  pub label_read :
      ReadsNumbers 2 (codes "label") line (Some ns) → (asked : Node × Concept) → (get_or ns 0 0 ≡ asked.0.0) × (get_or ns 1 0 ≡ asked.1.0)
      → FieldsFit (label_call asked) → ReadsCall label_call line (Some (label_call asked))
  label_read read asked same fit =
      let are : ns ≡ asked.0.0 ∷ (asked.1.0 ∷ []) = text_from_reads ns _ read.0 (same.0, (same.1, tt)) in
      (asked, refl, fit, read.2 ∙ ap (λ l. codes "label" ++ fields l) are)

  pub no_label :
      ReadsNumbers 2 (codes "label") line (Some ns) → (At 0 16 ns × At 1 16 ns → ⊥) → ReadsCall label_call line None
  no_label read large p fit e =
      large (subst (λ l. At 0 16 l × At 1 16 l)
      (sym (only_these 2 (codes "label") line ns (p.0.0 ∷ (p.1.0 ∷ [])) read refl (omega (arith, fit.0), (omega (arith, fit.1.0), tt)) e))
      (fit.0, fit.1.0))

  -- the amount of memory on a line, which is all that follows the word
  pub memory_read :
      (word : List ℕ) → ReadsNumbers 1 word line (Some ns) → (r : Option ℕ)
      → MatchOption r (MemoryFits (get_or ns 0 0) → ⊥) (λ n. (n ≡ get_or ns 0 0) × MemoryFits n) → ReadsMemory word line r
  memory_read word read (Some n) h =
      let are : ns ≡ get_or ns 0 0 ∷ [] = text_from_reads ns _ read.0 (refl, tt) in
      (h.1, read.2 ∙ ap (λ l. word ++ fields l) (are ∙ ap (λ m. m ∷ []) (sym h.0)))
  memory_read word read None h = λ amount fit e.
      h (subst (λ l. MemoryFits (get_or l 0 0)) (sym (only_these 1 word line ns (amount ∷ []) read refl (omega (arith, fit), tt) e)) fit)

  pub no_sparse :
      ReadsMemory (codes "board dense") line None → ReadsNumbers 2 (codes "board sparse") line (Some ns) → (At 0 32 ns × MemoryFits (get_or ns 1 0) → ⊥)
      → ReadsBoard line None
  no_sparse dense read large (plan.Dense cells) fit e = dense cells fit e
  no_sparse dense read large (plan.Sparse size entries) fit e =
      large (subst (λ l. At 0 32 l × MemoryFits (get_or l 1 0))
      (sym (only_these 2 (codes "board sparse") line ns (size ∷ (entries ∷ [])) read refl (omega (arith, fit.0), (omega (arith, fit.1), tt)) e)) fit)
