-- The lines of a script noted one after another. Assumes nothing.
use Rattle.std.proofs.Common.{◌≡◌, ℕ, ◌<◌, List, [], ◌∷◌, ◌++◌, length, Ok, Err, sym, ap, ◌∙◌, subst, append_assoc, append-nil, ⊎_elim, length-append, arith}
use Rattle.labels.specs.Kind.{Kind}
use Rattle.runs.specs.declared.Request.{Request}
use Rattle.lines.specs.Texts.{LineAndRest}
use Rattle.sessions.specs.declared.Unmade.{Unmade}
use Rattle.sessions.specs.Noted.{Reply, Notes, Noted, no_line, call, no_call}

-- a line takes a byte or more
pub rest_shorter : (text line rest : List ℕ) → 0 < length text → LineAndRest text line rest → length rest < length text
rest_shorter text line rest some cut =
    ⊎_elim (λ (e : text ≡ line ++ (10 ∷ rest)). omega (arith, ap length e, length-append line (10 ∷ rest)))
    (λ (e : (text ≡ line) × (rest ≡ [])). omega (arith, ap length e.1)) cut.1

module _ {L : Type 0} (k : Kind L) where
  -- however the rest of the text is noted, the whole text is then noted
  abbrev pub Completes : (whole rest : List ℕ) → List Reply → List (Request L) → Type 0
  Completes whole rest replies requests =
      (more : List Reply) (calls : List (Request L)) → Noted k rest more calls → Noted k whole (replies ++ more) (requests ++ calls)

  -- a call more
  pub call_more :
      (whole text line rest : List ℕ) (replies replies' : List Reply) (requests requests' : List (Request L)) (r : Request L)
      → 0 < length text → LineAndRest text line rest → Notes k line (Ok r) → replies' ≡ replies ++ (Ok tt ∷ []) → requests' ≡ requests ++ (r ∷ [])
      → Completes whole text replies requests → Completes whole rest replies' requests'
  call_more whole text line rest replies replies' requests requests' r some cut notes er eq completes more calls noted =
      subst (λ (l : List Reply). Noted k whole l (requests' ++ calls)) (sym (ap (λ l. l ++ more) er ∙ append_assoc replies (Ok tt ∷ []) more))
      (subst (λ (l : List (Request L)). Noted k whole (replies ++ (Ok tt ∷ more)) l) (sym (ap (λ l. l ++ calls) eq ∙ append_assoc requests (r ∷ []) calls))
      (completes (Ok tt ∷ more) (r ∷ calls) (call some cut notes noted)))

  -- a line more that makes no call
  pub no_call_more :
      (whole text line rest : List ℕ) (replies replies' : List Reply) (requests requests' : List (Request L)) (why : Unmade)
      → 0 < length text → LineAndRest text line rest → Notes k line (Err why) → replies' ≡ replies ++ (Err why ∷ []) → requests' ≡ requests
      → Completes whole text replies requests → Completes whole rest replies' requests'
  no_call_more whole text line rest replies replies' requests requests' why some cut notes er eq completes more calls noted =
      subst (λ (l : List Reply). Noted k whole l (requests' ++ calls)) (sym (ap (λ l. l ++ more) er ∙ append_assoc replies (Err why ∷ []) more))
      (subst (λ (l : List (Request L)). Noted k whole (replies ++ (Err why ∷ more)) (l ++ calls)) (sym eq)
      (completes (Err why ∷ more) calls (no_call why some cut notes noted)))

  -- after the last line
  pub completes_all :
      (whole rest : List ℕ) (replies : List Reply) (requests : List (Request L)) → rest ≡ []
      → Completes whole rest replies requests → Noted k whole replies requests
  completes_all whole rest replies requests none completes =
      simp append-nil at (completes [] [] (subst (λ (l : List ℕ). Noted k l [] []) (sym none) no_line))
