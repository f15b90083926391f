-- One call of a list and many, from what the call gives. Assumes nothing.
use Rattle.std.proofs.Common.{◌≡◌, ℕ, ◌+◌, ◌<◌, true, get_or, List, [], ◌∷◌, ◌++◌, map, length, take, is_err, Ok, Err, Result, Vec, sym, refl, ap, ◌∙◌, subst}
use borrow.Author.Tests.{clash}
use Rattle.std.proofs.lemmas.List.{map-append, take_more}
use Rattle.labels.specs.Kind.{Kind, Lawful}
use Rattle.boards.specs.Meaning.{Cleared}
use Rattle.books.specs.Contents.{blank_book}
use Rattle.runs.specs.declared.Request.{Request}
use Rattle.runs.specs.declared.Outcome.{Outcome}
use Rattle.runs.specs.Account.{Account, Answer, said}
use Rattle.runs.specs.Law.{Memory, Run, Law, Gives, Chain, TrueAndMeant, TrueAccount}
use Rattle.runs.specs.Step.{Step}
use Rattle.runs.proofs.Keeps.{stays_true}
use Rattle.runs.proofs.Meanings.{claims}

module _ {L : Type 0} (k : Kind L) where
  -- a call that gives what it should makes a step; the request is known by its variant
  pub made_by :
      Lawful k → {q q' : Request L} → q ≡ q' → (before : Account L) (o : Outcome L) (after : Account L)
      → Gives k before q' (said o) after → Step k before q o after
  made_by laws {q} {q'} is before o after g =
      subst (λ (q : Request L). Step k before q o after) (sym is)
      (record { gives = g; claims = claims k laws before q' (said o) after g; stays_true = stays_true k before q' (said o) after g })

  -- one call more at the end of a chain
  chain_more :
      (a : Account L) (qs : List (Request L)) (os : List (Answer L)) (b : Account L) (q : Request L) (o : Answer L) (c : Account L)
      → Chain k a qs os b → Gives k b q o c → TrueAndMeant k b q o → Chain k a (qs ++ (q ∷ [])) (os ++ (o ∷ [])) c
  chain_more a [] [] b q o c h g m =
      (c, subst (λ (x : Account L). Gives k x q o c) h g, subst (λ (x : Account L). TrueAndMeant k x q o) h m, refl)
  chain_more a [] (p ∷ os) b q o c h g m = absurd h
  chain_more a (r ∷ qs) [] b q o c h g m = absurd h
  chain_more a (r ∷ qs) (p ∷ os) b q o c h g m = (h.0, h.1, h.2, chain_more h.0 qs os b q o c h.3 g m)

  -- calls made so far
  pub record Reached (start : Account L) (qs : List (Request L)) (os : List (Answer L)) (here : Account L) : Type 0 where
    pub chain : Chain k start qs os here
    pub is_true : TrueAccount k here

  -- the next call of a list, made
  pub reached_again :
      (start : Account L) (calls : List (Request L)) (i : ℕ) (xs xs' : List (Outcome L)) (here : Account L) (q : Request L) (o : Outcome L) (next : Account L)
      → i < length calls → q ≡ get_or calls i q → xs' ≡ xs ++ (o ∷ []) → Reached start (take i calls) (map said xs) here → Step k here q o next
      → Reached start (take (i + 1) calls) (map said xs') next
  reached_again start calls i xs xs' here q o next lt is ex r step =
      let t = r.is_true in
      let more : take (i + 1) calls ≡ take i calls ++ (q ∷ []) = take_more calls i q lt ∙ ap (λ q. take i calls ++ (q ∷ [])) (sym is) in
      subst (λ (l : List (Request L)). Reached start l (map said xs') next) (sym more)
      (subst (λ (l : List (Answer L)). Reached start (take i calls ++ (q ∷ [])) l next) (sym (ap (λ l. map said l) ex ∙ map-append said xs (o ∷ [])))
      (record {
        chain = chain_more start (take i calls) (map said xs) here q (said o) next r.chain step.gives (t, step.claims t);
        is_true = step.stays_true t;
      }))

  -- the run, from what was reached
  pub run :
      (before after : Memory L) (start : Account L) (qs : List (Request L)) (os : List (Answer L)) (here : Account L) → Reached start qs os here
      → start.book ≡ blank_book (length before.cells) → Cleared k before.board start.board
      → take (length here.book.sentences) after.cells ≡ here.book.sentences → after.board ≡ here.board → Run k before qs os after
  run before after start qs os here r blank cleared cells b =
      record {
        start = start;
        end = here;
        fresh = record { book = blank; board_cleared = cleared };
        chain = r.chain;
        end_true = r.is_true;
        cells = cells;
        board = b;
      }

  -- a log that found no memory
  pub law_err :
      {Z E : Type 0} (before after : Memory L) (calls : List (Request L)) (r : Result (Vec (Outcome L) Z) E) → is_err r ≡ true
      → (n : ℕ) (answers : List (Answer L)) → Run k before (take n calls) answers after → Law k before calls r after
  law_err before after calls (Ok v) e n answers h = absurd (clash e)
  law_err before after calls (Err x) e n answers h = (n, answers, h)

  pub reached_at : {start : Account L} {qs : List (Request L)} {os : List (Answer L)} {here here' : Account L} → here' ≡ here → Reached start qs os here → Reached start qs os here'
  reached_at {start} {qs} {os} {here} {here'} e r = subst (λ (a : Account L). Reached start qs os a) (sym e) r

  pub reached_all : {start : Account L} {qs qs' : List (Request L)} {os : List (Answer L)} {here : Account L} → qs ≡ qs' → Reached start qs os here → Reached start qs' os here
  reached_all {start} {qs} {qs'} {os} {here} e r = subst (λ (l : List (Request L)). Reached start l os here) e r
