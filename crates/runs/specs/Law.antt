-- The whole promise: what each call of a list gives, and what its answers mean in every world. Assumes nothing.
use Rattle.std.specs.Prelude.{◌≡◌, ℕ, ◌<◌, true, ◌↔◌, List, [], ◌∷◌, map, length, take, replicate, Ok, Err, Result, Vec}
use Rattle.labels.specs.Kind.{Kind}
use Rattle.terms.specs.declared.Sentence.{Sentence}
use Rattle.terms.specs.declared.Refusal.{Refusal}
use Rattle.terms.specs.Sentences.{holdable}
use Rattle.theory.specs.Rules.{in_view}
use Rattle.theory.specs.Description.{name, done as nothing_more}
use Rattle.theory.specs.Entailed.{EveryWorldSaysYes}
use Rattle.boards.specs.Meaning.{Meaning}
use Rattle.settling.specs.Settled.{SettledBoard}
use Rattle.books.specs.Contents.{Contents, Sized, Entered, Withdrawn}
use Rattle.books.specs.Settling.{SettlesBook, Labelled}
use Rattle.texts.specs.declared.Misread.{Misread}
use Rattle.texts.specs.Texts.{Reads, Writes}
use Rattle.listings.specs.Listing.{Lists}
use Rattle.runs.specs.declared.Request.{Request}
use Rattle.runs.specs.declared.Request.TheVariants as request
use Rattle.runs.specs.declared.Outcome.{Outcome}
use Rattle.runs.specs.Account.{Account, account, Fresh, Answer, done, read, labelled, bytes, said}

module _ {L : Type 0} (k : Kind L) where
  -- what one call gives: from the account before it and what it is given, its answer and the account after it
  abbrev pub Gives : Account L → Request L → Answer L → Account L → Type 0
  Gives a (request.Size z) o b =
      (r : Result (Unit {0}) Refusal) × (c : Contents L) × (o ≡ done r) × Sized a.book z r c × (b ≡ account c a.board)
  Gives a (request.Enter s) o b =
      (r : Result (Unit {0}) Refusal) × (c : Contents L) × (o ≡ done r) × Entered a.book s r c × (b ≡ account c a.board)
  Gives a (request.Withdraw i) o b =
      (r : Result (Unit {0}) Refusal) × (c : Contents L) × (o ≡ done r) × Withdrawn a.book i r c × (b ≡ account c a.board)
  Gives a (request.Read text) o b =
      (r : Result (Unit {0}) Misread) × (c : Contents L) × (o ≡ read r) × Reads k a.book text.now r c × (b ≡ account c a.board)
  Gives a (request.Write room) o b =
      (r : Result ℕ Refusal) × (out : List ℕ) × (o ≡ bytes r out) × Writes k a.book (replicate room 0) r out × (b ≡ a)
  Gives a request.Settle o b =
      (r : Result (Unit {0}) Refusal) × (c : Contents L) × (m : Meaning L) × (o ≡ done r) × SettlesBook k a.book a.board r c m × (b ≡ account c m)
  Gives a (request.Label x B) o b =
      (r : Result L Refusal) × (o ≡ labelled r) × Labelled k a.book a.board x B r × (b ≡ a)
  Gives a (request.List room) o b =
      (r : Result ℕ Refusal) × (out : List ℕ) × (o ≡ bytes r out) × Lists k a.book a.board (replicate room 0) r out × (b ≡ a)

  -- an account is true: its book can be, and a settled book's board has its settled labels
  pub record TrueAccount (a : Account L) : Type 0 where
    pub book : holdable a.book.cells a.book.sizes a.book.sentences ≡ true
    pub board : a.book.settled ≡ true → SettledBoard k a.book.sizes a.book.sentences a.board

  -- the label answered holds a view exactly when the membership is so in every world that keeps that view's sentences then in the book
  abbrev pub LabelHoldsWhatEveryWorldSays : Contents L → (x B : ℕ) → L → Type 0
  LabelHoldsWhatEveryWorldSays b x B l =
      (v : ℕ) → v < k.views
      → (k.holds l v ≡ true) ↔ EveryWorldSaysYes b.sizes (in_view k v b.sentences) x (name B nothing_more)

  -- what an answer means in the worlds
  abbrev pub Claims : Account L → Request L → Answer L → Type 0
  Claims a (request.Label x B) o = (l : L) → o ≡ labelled (Ok l) → LabelHoldsWhatEveryWorldSays a.book x.0 B.0 l
  Claims a (request.Size z) o = Unit {0}
  Claims a (request.Enter s) o = Unit {0}
  Claims a (request.Withdraw i) o = Unit {0}
  Claims a (request.Read text) o = Unit {0}
  Claims a (request.Write room) o = Unit {0}
  Claims a request.Settle o = Unit {0}
  Claims a (request.List room) o = Unit {0}

  -- the account is true before the call, and the answer means what it should
  abbrev pub TrueAndMeant : Account L → Request L → Answer L → Type 0
  TrueAndMeant a q o = TrueAccount a × Claims a q o

  -- a list of calls: an account before each, and each call gives its answer and the next account, and is true and meant
  abbrev pub Chain : Account L → List (Request L) → List (Answer L) → Account L → Type 0
  Chain a [] [] b = b ≡ a
  Chain a [] (o ∷ os) b = ⊥
  Chain a (q ∷ qs) [] b = ⊥
  Chain a (q ∷ qs) (o ∷ os) b = (c : Account L) × Gives a q o c × TrueAndMeant a q o × Chain c qs os b

-- what memory holds: the cells of the book, and the board
pub record Memory (L : Type 0) : Type 0 where
  pub cells : List (Sentence L)
  pub board : Meaning L

-- the two together
abbrev pub memory : {L : Type 0} → List (Sentence L) → Meaning L → Memory L
memory cells board = record { cells = cells; board = board }

-- what the outcomes of a log say
abbrev pub logged : {L Z : Type 0} → Vec (Outcome L) Z → List (Answer L)
logged log = map said log.items

-- the calls were made on a book and board made now, and gave these answers; memory is then as the last account says
pub record Run {L : Type 0} (k : Kind L) (before : Memory L) (calls : List (Request L)) (answers : List (Answer L)) (after : Memory L) : Type 0 where
  pub start : Account L
  pub end : Account L
  pub fresh : Fresh k (length before.cells) before.board start
  pub chain : Chain k start calls answers end
  pub end_true : TrueAccount k end
  pub cells : take (length end.book.sentences) after.cells ≡ end.book.sentences
  pub board : after.board ≡ end.board

-- every call of the list was made and its outcome logged; or the log found no memory, and the first n calls were made
abbrev pub Law : {L Z E : Type 0} → Kind L → Memory L → List (Request L) → Result (Vec (Outcome L) Z) E → Memory L → Type 0
Law k before calls (Ok log) after = Run k before calls (logged log) after
Law {L} k before calls (Err e) after = (n : ℕ) × (answers : List (Answer L)) × Run k before (take n calls) answers after
