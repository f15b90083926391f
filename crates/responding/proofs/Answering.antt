-- From what reading, settling and listing do to the answer. Assumes nothing.
use Rattle.std.proofs.Common.{◌≡◌, ℕ, ◌<◌, ◌≤◌, Bool, true, false, ltb, List, [], ◌∷◌, ◌++◌, length, take, drop, is_ok, IsErrAnd, Ok, Err, Result, sym, refl, ap, ◌∙◌, subst, arith, ltb-false, ltb-true}
use Rattle.std.proofs.lemmas.List.{drop_at}
use Rattle.std.proofs.lemmas.Result.{err_from_is_err_and}
use Rattle.labels.specs.Kind.{Kind, Lawful}
use Rattle.terms.specs.declared.Sentence.{Sentence}
use Rattle.terms.specs.declared.Refusal.{Refusal}
use Rattle.terms.specs.declared.Refusal.TheVariants.{TooFewPlaces, BoardFull, MemoryTooShort}
use Rattle.terms.specs.Places.{places}
use Rattle.terms.specs.Refusals.{After, first_fault, Fills}
use Rattle.terms.proofs.Holding.{holdable_parts}
use Rattle.terms.proofs.Placing.{limits, few_places}
use Rattle.theory.proofs.Views.{settled_labels_say}
use Rattle.boards.specs.Meaning.{Meaning}
use Rattle.settling.specs.Settled.{label_on, Brought, BroughtOrShort}
use Rattle.books.specs.Contents.{Contents, blank_book, marked}
use Rattle.books.specs.Settling.{SettlesBook}
use Rattle.texts.specs.declared.Misread.{Misread}
use Rattle.texts.specs.Lines.{outside_reading}
use Rattle.texts.specs.Texts.{Reads, BadLine, no_sizes_header, no_sizes, sizes_outside, no_sentences_header, no_sentence, malformed, no_label, no_cell}
use Rattle.listings.specs.Listing.{listing, Lists}
use Rattle.listings.proofs.Same.{not_both}
use Rattle.responding.specs.Answers.{Held, holding, over, Written, BookOfInput, LabelsOf, Answers, ListingWritten, Tried, too_long, bad_line, too_few_places, too_many_labels, listing_too_long, listed, Memory, memory, Prints}

module _ {L : Type 0} (k : Kind L) (laws : Lawful k) (input : List ℕ) (before : Held L) where
  -- a board brought to the settled labels has them all, and they mean what they should
  brought_labels :
      (b : Contents L) (m : Meaning L) → BookOfInput k input before b → places b.sizes ≤ before.board.size
      → Brought k b.sizes b.sentences before.board m → LabelsOf k input before b m
  brought_labels b m book enough h =
      let can_be = book.read.can_be in
      let least = h.board.least in
      let size = h.size in
      let capacity = h.capacity in
      record {
        size = size;
        capacity = capacity;
        enough = omega (arith, size, enough);
        few = not_both k laws b.sizes before.book.cells b.sentences can_be before.board m m.capacity enough capacity h;
        settled = h.board;
        meant = settled_labels_say k laws before.book.cells b.sizes b.sentences can_be (label_on k b.sizes m) least;
      }

  pub longer : (bad : Misread) → bad ≡ outside_reading MemoryTooShort → 16384 < length input → Tried k input before (Err bad) before
  longer bad is h = subst (λ (e : Misread). Answers k input before (Err e) before) (sym is) (too_long h)

  -- what leaves by a `?` is the refusal that came
  pub tried_left : (after : Held L) (bad : Misread) (r : Result ℕ Misread) → IsErrAnd r (λ y. y ≡ bad) → Tried k input before (Err bad) after → Tried k input before r after
  tried_left after bad r left =
      let by = err_from_is_err_and r left in
      subst (λ (s : Result ℕ Misread). Tried k input before s after) (sym (by.1 ∙ ap Err by.2))

  pub misread : (bad : Misread) (b : Contents L) → length input ≤ 16384 → Reads k before.book input (Err bad) b → Tried k input before (Err bad) (holding b before.board before.out)
  misread bad b short h = bad_line bad b short h

  -- a book just read is not settled
  same_mark : (b : Contents L) → BookOfInput k input before b → marked b false ≡ b
  same_mark b book =
      let fresh : false ≡ b.settled = sym (ap (λ (x : Contents L). x.settled) book.read.book) in
      λ i. record { sizes = b.sizes; sentences = b.sentences; settled = fresh i; cells = b.cells }

  -- what settling that book answers
  abbrev SettlingAnswer : (b : Contents L) → Result (Unit {0}) Refusal → Contents L → Meaning L → Type 0
  SettlingAnswer b (Ok u) c m = (c ≡ marked b true) × LabelsOf k input before b m
  SettlingAnswer b (Err e) c m = Answers k input before (Err (outside_reading e)) (holding c m before.out)

  module _ (b : Contents L) (short : length input ≤ 16384) (read : Reads k before.book input (Ok tt) b) where
    book : BookOfInput k input before b
    book = record { short = short; read = read }

    -- once the board has places enough
    brought_or_short :
        (r : Result (Unit {0}) Refusal) (c : Contents L) (m : Meaning L) → places b.sizes ≤ before.board.size → c ≡ marked b (is_ok r)
        → BroughtOrShort k b.sizes b.sentences before.board r m → SettlingAnswer b r c m
    brought_or_short (Ok u) c m enough is h = (is, brought_labels b m book enough h)
    brought_or_short (Err e) c m enough is h =
        subst (λ (x : Refusal). Answers k input before (Err (outside_reading x)) (holding c m before.out)) (sym h.0)
        (subst (λ (x : Contents L). Answers k input before (Err (outside_reading BoardFull)) (holding x m before.out)) (sym (is ∙ same_mark b book))
        (too_many_labels b m book enough h.1.too_many h.1.board))

    -- by whether it has
    settled_by :
        (small : Bool) → small ≡ ltb before.board.size (places b.sizes) → (r : Result (Unit {0}) Refusal) (c : Contents L) (m : Meaning L)
        → After (first_fault ((small, TooFewPlaces) ∷ [])) r ((c ≡ b) × (m ≡ before.board)) (λ r. (c ≡ marked b (is_ok r)) × BroughtOrShort k b.sizes b.sentences before.board r m)
        → SettlingAnswer b r c m
    settled_by true is r c m h =
        subst (λ (x : Result (Unit {0}) Refusal). SettlingAnswer b x c m) (sym h.0)
        (subst (λ (x : Contents L). Answers k input before (Err (outside_reading TooFewPlaces)) (holding x m before.out)) (sym h.1.0)
        (subst (λ (x : Meaning L). Answers k input before (Err (outside_reading TooFewPlaces)) (holding b x before.out)) (sym h.1.1)
        (too_few_places b book (ltb-true before.board.size (places b.sizes) (sym is)))))
    settled_by false is r c m h =
        brought_or_short r c m (ltb-false before.board.size (places b.sizes) (sym is)) h.0 h.1

    settling_answers : (r : Result (Unit {0}) Refusal) (c : Contents L) (m : Meaning L) → SettlesBook k b before.board r c m → SettlingAnswer b r c m
    settling_answers r c m h = settled_by (ltb before.board.size (places b.sizes)) refl r c m h

    pub unsettled : (e : Refusal) (c : Contents L) (m : Meaning L) → SettlesBook k b before.board (Err e) c m → Tried k input before (Err (outside_reading e)) (holding c m before.out)
    unsettled e c m h = settling_answers (Err e) c m h

    -- the listing of the settled book
    module _ (m : Meaning L) (labels : LabelsOf k input before b m) (out : List ℕ) where
      listing_whole : (n : ℕ) → Fills (listing k b.sizes m) before.out (Ok n) out → Tried k input before (Ok n) (holding (marked b true) m out)
      listing_whole n h =
          let over_old : out ≡ over (listing k b.sizes m) before.out = h.2 ∙ ap (λ i. listing k b.sizes m ++ drop i before.out) h.0 in
          record {
            bytes = listing k b.sizes m;
            answers =
                subst (λ (x : List ℕ). Answers k input before (Ok (listing k b.sizes m)) (holding (marked b true) m x)) (sym over_old)
                (listed b m book labels (omega (arith, h.0, h.1)));
            long = h.0;
            within = h.1;
            out = over_old;
          }

      listing_cut : (e : Refusal) → Fills (listing k b.sizes m) before.out (Err e) out → Tried k input before (Err (outside_reading e)) (holding (marked b true) m out)
      listing_cut e h =
          subst (λ (x : Refusal). Answers k input before (Err (outside_reading x)) (holding (marked b true) m out)) (sym h.0)
          (subst (λ (x : List ℕ). Answers k input before (Err (outside_reading MemoryTooShort)) (holding (marked b true) m x)) (sym h.2)
          (listing_too_long b m book labels h.1))

    pub listed_whole :
        (n : ℕ) (c : Contents L) (m : Meaning L) (out : List ℕ) → SettlesBook k b before.board (Ok tt) c m → Lists k c m before.out (Ok n) out
        → Tried k input before (Ok n) (holding c m out)
    listed_whole n c m out h l =
        let a = settling_answers (Ok tt) c m h in
        subst (λ (x : Contents L). Tried k input before (Ok n) (holding x m out)) (sym a.0)
        (listing_whole m a.1 out n (subst (λ (x : Contents L). Lists k x m before.out (Ok n) out) a.0 l))

    pub listed_cut :
        (e : Refusal) (c : Contents L) (m : Meaning L) (out : List ℕ) → SettlesBook k b before.board (Ok tt) c m → Lists k c m before.out (Err e) out
        → Tried k input before (Err (outside_reading e)) (holding c m out)
    listed_cut e c m out h l =
        let a = settling_answers (Ok tt) c m h in
        subst (λ (x : Contents L). Tried k input before (Err (outside_reading e)) (holding x m out)) (sym a.0)
        (listing_cut m a.1 out e (subst (λ (x : Contents L). Lists k x m before.out (Err e) out) a.0 l))

-- bytes over a memory that they are over already
over_again : (bytes old : List ℕ) → over bytes old ≡ over bytes (over bytes old)
over_again bytes old = ap (λ l. bytes ++ l) (sym (drop_at bytes (drop (length bytes) old) (length bytes) refl))

-- a bad line is never refused for want of places
not_of_a_line : {L : Type 0} (k : Kind L) (cells : ℕ) (text : List ℕ) (e : Refusal) (i : ℕ) → BadLine k cells text e i → e ≡ TooFewPlaces → ⊥
not_of_a_line k cells text e i (no_sizes_header h) is = let z : ◌≡◌ {A = ℕ} 0 1 = cc in omega arith
not_of_a_line k cells text e i (no_sizes r o h) is = let z : ◌≡◌ {A = ℕ} 0 1 = cc in omega arith
not_of_a_line k cells text e i (sizes_outside z r o f h) is = let z : ◌≡◌ {A = ℕ} 0 1 = cc in omega arith
not_of_a_line k cells text e i (no_sentences_header z r o f h) is = let z : ◌≡◌ {A = ℕ} 0 1 = cc in omega arith
not_of_a_line k cells text e i (no_sentence z ss r g n h) is = let z : ◌≡◌ {A = ℕ} 0 1 = cc in omega arith
not_of_a_line k cells text e i (malformed z ss s n h) is = let z : ◌≡◌ {A = ℕ} 0 1 = cc in omega arith
not_of_a_line k cells text e i (no_label z ss s n f h) is = let z : ◌≡◌ {A = ℕ} 0 1 = cc in omega arith
not_of_a_line k cells text e i (no_cell z ss s n f l h q) is = let z : ◌≡◌ {A = ℕ} 0 1 = cc in omega arith

-- nor is anything, on a largest board
never_short :
    {L : Type 0} (k : Kind L) (input : List ℕ) (before after : Held L) (a : Result (List ℕ) Misread) → Answers k input before a after
    → 34078720 ≤ before.board.size → (bad : Misread) → a ≡ Err bad → bad.refusal ≡ TooFewPlaces → ⊥
never_short k input before after a (too_long h) large bad is short = let z : ◌≡◌ {A = ℕ} 0 1 = cc in omega arith
never_short k input before after a (bad_line worst b h r) large bad is short =
    not_of_a_line k before.book.cells input worst.refusal worst.line r.first_bad (cc)
never_short k input before after a (too_few_places b book h) large bad is short =
    let few = few_places b.sizes (limits b.sizes (holdable_parts before.book.cells b.sizes b.sentences book.read.can_be).limits) in
    omega (arith, few)
never_short k input before after a (too_many_labels b m book e o c) large bad is short = let z : ◌≡◌ {A = ℕ} 0 1 = cc in omega arith
never_short k input before after a (listing_too_long b m book labels h) large bad is short = let z : ◌≡◌ {A = ℕ} 0 1 = cc in omega arith
never_short k input before after a (listed b m book labels h) large bad is short = let z : ◌≡◌ {A = ℕ} 0 1 = cc in omega arith

module _ {L : Type 0} (k : Kind L) (input : List ℕ) (before : Memory L) (cells : List (Sentence L)) (held : Held L)
    (back : take (length held.book.sentences) cells ≡ held.book.sentences) where
  -- a listing is printed as it stands
  pub prints_listing :
      (start : Contents L) → start ≡ blank_book (length before.cells) → (n : ℕ) → Tried k input (holding start before.board before.out) (Ok n) held
      → Prints k input before n (memory cells held.board held.out)
  prints_listing start blank n h =
      let w : ListingWritten k input (holding (blank_book (length before.cells)) before.board before.out) n held =
      subst (λ (b : Contents L). ListingWritten k input (holding b before.board before.out) n held) blank h in
      record {
        answer = Ok w.bytes;
        held = held;
        answers = w.answers;
        out = w.out ∙ over_again w.bytes before.out ∙ ap (over w.bytes) (sym w.out);
        count = w.long;
        cells = back;
        board = refl;
        places_enough = never_short k input (holding (blank_book (length before.cells)) before.board before.out) held (Ok w.bytes) w.answers;
      }

  -- a refusal is printed as its line
  pub prints_refusal :
      (start : Contents L) → start ≡ blank_book (length before.cells) → (bad : Misread) (n : ℕ) (out : List ℕ)
      → Tried k input (holding start before.board before.out) (Err bad) held → Written bad held.out n out → Prints k input before n (memory cells held.board out)
  prints_refusal start blank bad n out h w =
      let answers : Answers k input (holding (blank_book (length before.cells)) before.board before.out) (Err bad) held =
      subst (λ (b : Contents L). Answers k input (holding b before.board before.out) (Err bad) held) blank h in
      record {
        answer = Err bad;
        held = held;
        answers = answers;
        out = w.written;
        count = w.line;
        cells = back;
        board = refl;
        places_enough = never_short k input (holding (blank_book (length before.cells)) before.board before.out) held (Err bad) answers;
      }
