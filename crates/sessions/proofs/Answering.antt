-- Lines that are noted, and calls that are made, are answered. Assumes nothing.
use Rattle.std.proofs.Common.{◌≡◌, ℕ, suc, List, [], ◌∷◌, map, length, sym, refl, ap, ◌∙◌, subst, arith}
use Rattle.labels.specs.Kind.{Kind}
use Rattle.boards.specs.Meaning.{Meaning, Made as MadeBoard}
use Rattle.runs.specs.declared.Request.{Request}
use Rattle.runs.specs.declared.Outcome.{Outcome}
use Rattle.runs.specs.Account.{Account, Answer, said}
use Rattle.runs.specs.Law.{Chain, Memory, Run}
use Rattle.scripts.specs.declared.BoardPlan.{BoardPlan}
use Rattle.scripts.specs.declared.Setup.{Setup}
use Rattle.sessions.specs.declared.Unmade.TheVariants.{NoSuchLabel, BadLine}
use Rattle.sessions.specs.Answered as answered
use Rattle.sessions.specs.Answered.{Told, Planned, AnswersIn}
use Rattle.sessions.specs.Noted.{Reply, Noted, no_line, call, no_call, calls_among, told_lines, AnswersFrom}

module _ {L : Type 0} (k : Kind L) where
  -- each call of a run has one answer
  chain_counted : (a : Account L) (qs : List (Request L)) (os : List (Answer L)) (b : Account L) → Chain k a qs os b → length qs ≡ length os
  chain_counted a [] [] b h = refl
  chain_counted a [] (o ∷ os) b h = absurd h
  chain_counted a (q ∷ qs) [] b h = absurd h
  chain_counted a (q ∷ qs) (o ∷ os) b h = ap suc (chain_counted h.0 qs os b h.3)

  pub answers_counted :
      {before after : Memory L} {calls requests : List (Request L)} {os : List (Answer L)} → calls ≡ requests → Run k before calls os after
      → length requests ≡ length os
  answers_counted {before} {after} {calls} {requests} {os} is h = ap length (sym is) ∙ chain_counted h.start calls os h.end h.chain

  -- each reply by the outcome of a call has one call
  pub calls_counted : {text : List ℕ} {replies : List Reply} {requests : List (Request L)} → Noted k text replies requests → calls_among replies ≡ length requests
  calls_counted no_line = refl
  calls_counted (call some cut notes noted) = ap suc (calls_counted noted)
  calls_counted (no_call why some cut notes noted) = calls_counted noted

  -- lines that are noted are told
  lines_told :
      (n : ℕ) {text : List ℕ} {replies : List Reply} {requests : List (Request L)} → Noted k text replies requests
      → (os : List (Answer L)) → length requests ≡ length os → Told k n text requests os (told_lines k n replies os)
  lines_told n no_line [] e = answered.no_line
  lines_told n no_line (o ∷ os) e = absurd (omega (arith, e))
  lines_told n (call some cut notes noted) [] e = absurd (omega (arith, e))
  lines_told n (call some cut notes noted) (o ∷ os) e = answered.call some cut notes.1 notes.2 (lines_told (suc n) noted os (omega (arith, e)))
  lines_told n (no_call NoSuchLabel some cut notes noted) os e = answered.no_label some cut notes.1 notes.2 (lines_told (suc n) noted os e)
  lines_told n (no_call BadLine some cut notes noted) os e = answered.no_call some cut notes (lines_told (suc n) noted os e)

  -- the lines noted, the run of their calls, and the text told of both
  pub answers_from :
      {before after : Memory L} {lines told : List ℕ} {replies replies' : List Reply} {requests calls : List (Request L)} {log log' : List (Outcome L)}
      → Noted k lines replies requests → calls ≡ requests → Run k before calls (map said log) after → replies' ≡ replies → log' ≡ log
      → told ≡ told_lines k 5 replies' (map said log') → AnswersFrom k before lines told
  answers_from {before} {after} {lines} {told} {replies} {replies'} {requests} {calls} {log} {log'} noted calls_are run replies_are log_is told_is =
      record {
        requests = requests;
        answers = map said log;
        after = after;
        lines_told =
            subst (λ (t : List ℕ). Told k 5 lines requests (map said log) t)
            (sym (told_is ∙ ap (λ l. told_lines k 5 l (map said log')) replies_are ∙ ap (λ l. told_lines k 5 replies (map said l)) log_is))
            (lines_told 5 noted (map said log) (answers_counted calls_are run));
        run = subst (λ (qs : List (Request L)). Run k before qs (map said log) after) calls_are run;
      }

  -- a board made of a size and a capacity by other names
  pub made_as : {size size' capacity capacity' : ℕ} {m : Meaning L} → size ≡ size' → capacity ≡ capacity' → MadeBoard k size capacity m → MadeBoard k size' capacity' m
  made_as size_is capacity_is h = record { has_size = h.has_size ∙ size_is; has_capacity = h.has_capacity ∙ capacity_is; none = h.none }

  -- memory as the setup asks for it
  pub answers_in :
      (setup : Setup) (before : Memory L) (lines told : List ℕ) (plan : BoardPlan) → length before.cells ≡ setup.cells → setup.board ≡ plan
      → Planned k plan before.board → AnswersFrom k before lines told → AnswersIn k setup lines told
  answers_in setup before lines told plan cells is planned a =
      record {
        requests = a.requests;
        answers = a.answers;
        before = before;
        after = a.after;
        lines_told = a.lines_told;
        cells = cells;
        board = subst (λ (p : BoardPlan). Planned k p before.board) (sym is) planned;
        run = a.run;
      }
