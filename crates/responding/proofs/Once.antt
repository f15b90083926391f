-- Two answers to one input are the same. Assumes nothing.
use Rattle.std.proofs.Common.{◌≡◌, ℕ, ◌<◌, ◌≤◌, Bool, true, false, cond, ltb, List, map, length, Ok, Err, Result, sym, refl, ap, ◌∙◌, subst, arith, le-ltb, lt-ltb}
use Rattle.labels.specs.Kind.{Kind, Lawful}
use Rattle.terms.specs.declared.Sizes.{Sizes}
use Rattle.terms.specs.declared.Sentence.{Sentence}
use Rattle.terms.specs.declared.Refusal.TheVariants.{TooFewPlaces, BoardFull, MemoryTooShort}
use Rattle.terms.specs.Places.{places}
use Rattle.terms.specs.Sentences.{holdable}
use Rattle.theory.specs.Rules.{Overfull}
use Rattle.boards.specs.Meaning.{Meaning}
use Rattle.settling.specs.Settled.{SettledBoard}
use Rattle.books.specs.Contents.{Contents}
use Rattle.texts.specs.declared.Misread.{Misread}
use Rattle.texts.specs.Lines.{numbered, text_of, outside_reading}
use Rattle.texts.specs.Texts.{BadLine}
use Rattle.texts.proofs.Once.{one_book}
use Rattle.texts.proofs.Faults.{one_bad_line}
use Rattle.listings.specs.Listing.{listing}
use Rattle.listings.proofs.Same.{overfull_alike, listing_one}
use Rattle.responding.specs.Answers.{Held, BookOfInput, LabelsOf, Answers, too_long, bad_line, too_few_places, too_many_labels, listing_too_long, listed}
use Rattle.responding.specs.Once.{OneAnswer}

abbrev Answer : Type 0
Answer = Result (List ℕ) Misread

-- a listing, or that it has no room
abbrev fitted : (room : ℕ) → List ℕ → Answer
fitted room bytes = cond (ltb room (length bytes)) (Err (outside_reading MemoryTooShort)) (Ok bytes)

module _ {L : Type 0} (k : Kind L) where
  -- a book that was read, by how its labels fit a board of this size and capacity and an output memory of this length
  data Judged (size capacity room : ℕ) (z : Sizes) (ss : List (Sentence L)) : Answer → Type 0 where
    few_places : size < places z → Judged size capacity room z ss (Err (outside_reading TooFewPlaces))
    many_labels : places z ≤ size → Overfull k z ss capacity → Judged size capacity room z ss (Err (outside_reading BoardFull))
    labelled :
        (m : Meaning L) → places z ≤ size → (Overfull k z ss capacity → ⊥) → SettledBoard k z ss m
        → Judged size capacity room z ss (fitted room (listing k z m))

  -- an input, by what it is
  data Stage (cells size capacity room : ℕ) (input : List ℕ) : Answer → Type 0 where
    over_long : 16384 < length input → Stage cells size capacity room input (Err (outside_reading MemoryTooShort))
    at_line :
        (bad : Misread) → length input ≤ 16384 → ((z : Sizes) (ss : List (Sentence L)) → holdable cells z ss ≡ true → input ≡ text_of k z ss → ⊥)
        → BadLine k cells input bad.refusal bad.line → Stage cells size capacity room input (Err bad)
    of_book :
        (z : Sizes) (ss : List (Sentence L)) (a : Answer) → length input ≤ 16384 → holdable cells z ss ≡ true → input ≡ text_of k z ss
        → Judged size capacity room z ss a → Stage cells size capacity room input a

  module _ (input : List ℕ) (before : Held L) where
    abbrev Staged : Answer → Type 0
    Staged a = Stage before.book.cells before.board.size before.board.capacity (length before.out) input a

    -- labels that fit the board, and whether their listing fits the memory
    shown :
        (b : Contents L) (m : Meaning L) (a : Answer) → BookOfInput k input before b → LabelsOf k input before b m → fitted (length before.out) (listing k b.sizes m) ≡ a → Staged a
    shown b m a book labels is =
        let size = labels.size in
        let enough = labels.enough in
        of_book b.sizes b.sentences a book.short book.read.can_be book.read.its_text
        (subst (λ (a : Answer). Judged before.board.size before.board.capacity (length before.out) b.sizes b.sentences a) is
        (labelled m (omega (arith, size, enough))
        (subst (λ (c : ℕ). Overfull k b.sizes b.sentences c → ⊥) labels.capacity labels.few) labels.settled))

    fits_by : (bytes : List ℕ) (t : Bool) → ltb (length before.out) (length bytes) ≡ t → fitted (length before.out) bytes ≡ cond t (Err (outside_reading MemoryTooShort)) (Ok bytes)
    fits_by bytes t e = ap (λ t. cond t (Err (outside_reading MemoryTooShort)) (Ok bytes)) e

    stage : (after : Held L) (a : Answer) → Answers k input before a after → Staged a
    stage after a (too_long h) = over_long h
    stage after a (bad_line bad b short r) = at_line bad short r.no_book r.first_bad
    stage after a (too_few_places b book h) =
        of_book b.sizes b.sentences (Err (outside_reading TooFewPlaces)) book.short book.read.can_be book.read.its_text (few_places h)
    stage after a (too_many_labels b m book enough over c) =
        of_book b.sizes b.sentences (Err (outside_reading BoardFull)) book.short book.read.can_be book.read.its_text (many_labels enough over)
    stage after a (listing_too_long b m book labels h) =
        shown b m (Err (outside_reading MemoryTooShort)) book labels (fits_by (listing k b.sizes m) true (lt-ltb (length before.out) (length (listing k b.sizes m)) h))
    stage after a (listed b m book labels h) =
        shown b m (Ok (listing k b.sizes m)) book labels (fits_by (listing k b.sizes m) false (le-ltb (length before.out) (length (listing k b.sizes m)) h))

  module _ (laws : Lawful k) where
    -- two judgements of books whose sentences have the same numbers
    module _ (size capacity room cells : ℕ) (z : Sizes) (ss ts : List (Sentence L)) (can_be : holdable cells z ss ≡ true) (can_be' : holdable cells z ts ≡ true)
        (e : map (numbered k) ts ≡ map (numbered k) ss) where
      one_judgement : (a b : Answer) → Judged size capacity room z ss a → Judged size capacity room z ts b → b ≡ a
      one_judgement a b (few_places h) (few_places i) = refl
      one_judgement a b (few_places h) (many_labels i p) = absurd (omega arith)
      one_judgement a b (few_places h) (labelled n i f t) = absurd (omega arith)
      one_judgement a b (many_labels h o) (few_places i) = absurd (omega arith)
      one_judgement a b (many_labels h o) (many_labels i p) = refl
      one_judgement a b (many_labels h o) (labelled n i f t) = absurd (f (overfull_alike k laws z cells ts ss can_be' can_be (sym e) n t capacity o))
      one_judgement a b (labelled m h f s) (few_places i) = absurd (omega arith)
      one_judgement a b (labelled m h f s) (many_labels i p) = absurd (f (overfull_alike k laws z cells ss ts can_be can_be' e m s capacity p))
      one_judgement a b (labelled m h f s) (labelled n i g t) = ap (fitted room) (listing_one k laws z cells ss ts can_be e m n s t)

    one_stage : (cells size capacity room : ℕ) (input : List ℕ) (a b : Answer) → Stage cells size capacity room input a → Stage cells size capacity room input b → b ≡ a
    one_stage cells size capacity room input a b (over_long h) (over_long i) = refl
    one_stage cells size capacity room input a b (over_long h) (at_line bad i n f) = absurd (omega arith)
    one_stage cells size capacity room input a b (over_long h) (of_book y ts c i j t g) = absurd (omega arith)
    one_stage cells size capacity room input a b (at_line bad h n f) (over_long i) = absurd (omega arith)
    one_stage cells size capacity room input a b (at_line bad h n f) (at_line worse i o g) =
        let one = one_bad_line k laws cells input worse.refusal bad.refusal worse.line bad.line g f in
        ap Err (λ j. record { refusal = one.0 j; line = one.1 j })
    one_stage cells size capacity room input a b (at_line bad h n f) (of_book y ts c i j t g) = absurd (n y ts j t)
    one_stage cells size capacity room input a b (of_book z ss d h can s f) (over_long i) = absurd (omega arith)
    one_stage cells size capacity room input a b (of_book z ss d h can s f) (at_line worse i o g) = absurd (o z ss can s)
    one_stage cells size capacity room input a b (of_book z ss d h can s f) (of_book y ts c i can' t g) =
        let one = one_book k laws cells y z ts ss can' can (sym t ∙ s) in
        one_judgement size capacity room cells z ss ts can (subst (λ (x : Sizes). holdable cells x ts ≡ true) one.0 can') one.1 a b f
        (subst (λ (x : Sizes). Judged size capacity room x ts b) one.0 g)

    pub one_answer : OneAnswer k
    one_answer input before before' after after' a a' room h i =
        one_stage before.book.cells before.board.size before.board.capacity (length before.out) input a a' (stage input before after a h)
        (subst (λ (n : ℕ). Stage before.book.cells before.board.size before.board.capacity n input a') room.out
        (subst (λ (n : ℕ). Stage before.book.cells before.board.size n (length before'.out) input a') room.capacity
        (subst (λ (n : ℕ). Stage before.book.cells n before'.board.capacity (length before'.out) input a') room.size
        (subst (λ (n : ℕ). Stage n before'.board.size before'.board.capacity (length before'.out) input a') room.cells
        (stage input before' after' a' i)))))
