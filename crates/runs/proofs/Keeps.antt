-- A call keeps a true account true. Assumes nothing.
use Rattle.std.proofs.Common.{◌≡◌, ℕ, Bool, true, false, not, ltb, leb, List, [], ◌∷◌, ◌++◌, length, is_ok, Some, None, Ok, Err, Option, Result, sym, refl, subst, arith, leb-false}
use borrow.Author.Tests.{not-false, clash}
use Rattle.std.specs.List.{remove}
use Rattle.labels.specs.Kind.{Kind}
use Rattle.terms.specs.declared.Sizes.{Sizes}
use Rattle.terms.specs.declared.Sentence.{Sentence}
use Rattle.terms.specs.declared.Refusal.{Refusal}
use Rattle.terms.specs.declared.Refusal.TheVariants.{SizesOutsideLimits, MalformedSentence, BookFull, OutOfRange, TooFewPlaces}
use Rattle.terms.specs.Refusals.{first_fault, After, Accepted}
use Rattle.terms.specs.Places.{places, outside_limits}
use Rattle.terms.specs.Sentences.{well_formed, holdable}
use Rattle.terms.proofs.Faults.{no_fault}
use Rattle.terms.proofs.Holding.{holdable_from}
use Rattle.boards.specs.Meaning.{Meaning}
use Rattle.settling.specs.Settled.{BroughtOrShort}
use Rattle.books.specs.Contents.{Contents, unsettled, marked, one_concept}
use Rattle.books.specs.Settling.{SettlesBook}
use Rattle.books.proofs.Kept.{one_more, one_less}
use Rattle.texts.specs.declared.Misread.{Misread}
use Rattle.texts.specs.Texts.{Reads}
use Rattle.runs.specs.declared.Request.{Request}
use Rattle.runs.specs.declared.Request.TheVariants as request
use Rattle.runs.specs.Account.{Account, account, Answer}
use Rattle.runs.specs.Law.{Gives, TrueAccount}

module _ {L : Type 0} (k : Kind L) where
  same_true : {a b : Account L} → b ≡ a → TrueAccount k a → TrueAccount k b
  same_true e t = subst (λ (c : Account L). TrueAccount k c) (sym e) t

  -- a call that leaves the old book, or one that is not settled and can be
  left_true :
      (a : Account L) (c : Contents L) (z : Sizes) (ss : List (Sentence L)) (fault : Option Refusal)
      → (fault ≡ None → holdable a.book.cells z ss ≡ true) → (r : Result (Unit {0}) Refusal)
      → After fault r (c ≡ a.book) (Accepted (λ u. c ≡ unsettled a.book z ss)) → TrueAccount k a → TrueAccount k (account c a.board)
  left_true a c z ss (Some e) f r h t = subst (λ (b : Contents L). TrueAccount k (account b a.board)) (sym h.1) t
  left_true a c z ss None f (Ok u) h t =
      subst (λ (b : Contents L). TrueAccount k (account b a.board)) (sym h) (record { book = f refl; board = λ e. absurd (clash e) })
  left_true a c z ss None f (Err e) h t = absurd h

  settles_true :
      (a : Account L) (c : Contents L) (m : Meaning L) (r : Result (Unit {0}) Refusal) → SettlesBook k a.book a.board r c m
      → TrueAccount k a → TrueAccount k (account c m)
  settles_true a c m r h t = go (ltb a.board.size (places a.book.sizes)) r h
    where
      go :
          (small : Bool) (r : Result (Unit {0}) Refusal)
          → After (first_fault ((small, TooFewPlaces) ∷ [])) r ((c ≡ a.book) × (m ≡ a.board))
          (λ r. (c ≡ marked a.book (is_ok r)) × BroughtOrShort k a.book.sizes a.book.sentences a.board r m)
          → TrueAccount k (account c m)
      go true r h =
          subst (λ (b : Contents L). TrueAccount k (account b m)) (sym h.1.0)
          (subst (λ (n : Meaning L). TrueAccount k (account a.book n)) (sym h.1.1) t)
      go false (Ok u) h =
          subst (λ (b : Contents L). TrueAccount k (account b m)) (sym h.0) (record { book = t.book; board = λ e. h.1.board })
      go false (Err e) h =
          subst (λ (b : Contents L). TrueAccount k (account b m)) (sym h.0) (record { book = t.book; board = λ e. absurd (clash e) })

  -- what reading leaves can be, and is not settled
  read_true :
      (a : Account L) (c : Contents L) (text : List ℕ) (r : Result (Unit {0}) Misread) → Reads k a.book text r c → TrueAccount k a → TrueAccount k (account c a.board)
  read_true a c text (Ok u) h t =
      subst (λ (b : Contents L). TrueAccount k (account b a.board)) (sym h.book) (record { book = h.can_be; board = λ e. absurd (clash e) })
  read_true a c text (Err bad) h t =
      subst (λ (b : Contents L). TrueAccount k (account b a.board)) (sym h.book)
      (record { book = holdable_from {L = L} a.book.cells one_concept [] (record { limits = refl; formed = refl; few = omega arith }); board = λ e. absurd (clash e) })

  -- whatever the call, the account stays true
  pub stays_true : (a : Account L) (q : Request L) (o : Answer L) (b : Account L) → Gives k a q o b → TrueAccount k a → TrueAccount k b
  stays_true a (request.Size z) o b h t =
      same_true h.4
      (left_true a h.1 z [] (first_fault ((outside_limits z, SizesOutsideLimits) ∷ []))
      (λ e.
      holdable_from {L = L} a.book.cells z []
      (record { limits = (no_fault (outside_limits z) SizesOutsideLimits [] e).0; formed = refl; few = omega arith })) h.0 h.3 t)
  stays_true a (request.Enter s) o b h t =
      let z : Sizes = a.book.sizes in
      let ss : List (Sentence L) = a.book.sentences in
      let n : ℕ = a.book.cells in
      same_true h.4
      (left_true a h.1 z (ss ++ (s ∷ [])) (first_fault ((not (well_formed z s), MalformedSentence) ∷ ((leb n (length ss), BookFull) ∷ [])))
      (λ e.
      let one = no_fault (not (well_formed z s)) MalformedSentence ((leb n (length ss), BookFull) ∷ []) e in
      let two = no_fault (leb n (length ss)) BookFull [] one.1 in
      one_more n z ss t.book s (not-false (well_formed z s) one.0) (leb-false n (length ss) two.0)) h.0 h.3 t)
  stays_true a (request.Withdraw i) o b h t =
      let z : Sizes = a.book.sizes in
      let ss : List (Sentence L) = a.book.sentences in
      same_true h.4
      (left_true a h.1 z (remove ss i) (first_fault ((leb (length ss) i, OutOfRange) ∷ []))
      (λ e. one_less a.book.cells z ss t.book i (leb-false (length ss) i (no_fault (leb (length ss) i) OutOfRange [] e).0)) h.0 h.3 t)
  stays_true a (request.Read text) o b h t = same_true h.4 (read_true a h.1 text.now h.0 h.3 t)
  stays_true a (request.Write room) o b h t = same_true h.4 t
  stays_true a request.Settle o b h t = same_true h.5 (settles_true a h.1 h.2 h.0 h.4 t)
  stays_true a (request.Label x B) o b h t = same_true h.3 t
  stays_true a (request.List room) o b h t = same_true h.4 t
