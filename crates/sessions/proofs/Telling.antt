-- One line more is told. Assumes nothing.
use Rattle.std.proofs.Common.{◌≡◌, ℕ, suc, List, [], ◌∷◌, ◌++◌, Ok, Err, sym, ap, ◌∙◌, subst, append_assoc}
use Rattle.labels.specs.Kind.{Kind}
use Rattle.runs.specs.Account.{Answer}
use Rattle.scripts.specs.Lines.{answer_line}
use Rattle.sessions.specs.declared.Unmade.{Unmade}
use Rattle.sessions.specs.Noted.{Reply, unmade_line, told_lines}

-- a line and its line feed go before what is told after them
line_before : (before line rest after whole : List ℕ) → after ≡ (before ++ line) ++ (10 ∷ []) → before ++ (line ++ (10 ∷ rest)) ≡ whole → after ++ rest ≡ whole
line_before before line rest after whole e h =
    ap (λ z. z ++ rest) e ∙ append_assoc (before ++ line) (10 ∷ []) rest ∙ append_assoc before line (10 ∷ rest) ∙ h

module _ {L : Type 0} (k : Kind L) (n m : ℕ) (next : m ≡ suc n) (before line after whole : List ℕ) (added : after ≡ (before ++ line) ++ (10 ∷ [])) where
  -- the line of a call
  pub call_told :
      (rs rs' : List Reply) (os os' : List (Answer L)) (o : Answer L) → rs ≡ Ok tt ∷ rs' → os ≡ o ∷ os' → line ≡ answer_line k o
      → before ++ told_lines k n rs os ≡ whole → after ++ told_lines k m rs' os' ≡ whole
  call_told rs rs' os os' o er eo el h =
      subst (λ z. after ++ told_lines k z rs' os' ≡ whole) (sym next)
      (line_before before line (told_lines k (suc n) rs' os') after whole added
      (ap (λ z. before ++ (z ++ (10 ∷ told_lines k (suc n) rs' os'))) el
      ∙ sym (ap (λ z. before ++ told_lines k n (Ok tt ∷ rs') z) eo) ∙ sym (ap (λ z. before ++ told_lines k n z os) er) ∙ h))

  -- that of a line that makes none
  pub no_call_told :
      (rs rs' : List Reply) (os os' : List (Answer L)) (why : Unmade) → rs ≡ Err why ∷ rs' → os' ≡ os → line ≡ unmade_line n why
      → before ++ told_lines k n rs os ≡ whole → after ++ told_lines k m rs' os' ≡ whole
  no_call_told rs rs' os os' why er eo el h =
      subst (λ z. after ++ told_lines k m rs' z ≡ whole) (sym eo)
      (subst (λ z. after ++ told_lines k z rs' os ≡ whole) (sym next)
      (line_before before line (told_lines k (suc n) rs' os) after whole added
      (ap (λ z. before ++ (z ++ (10 ∷ told_lines k (suc n) rs' os))) el ∙ sym (ap (λ z. before ++ told_lines k n z os) er) ∙ h)))
