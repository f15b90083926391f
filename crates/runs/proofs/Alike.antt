-- A list of calls determines its answers and its end, labels up to their number. Assumes nothing.
use Rattle.std.proofs.Common.{◌≡◌, ℕ, ◌≤◌, Bool, true, false, not, ◌||◌, ltb, leb, List, [], ◌∷◌, ◌++◌, map, length, drop, replicate, is_ok, Some, None, Ok, Err, Option, Result, sym, refl, ap, ◌∙◌, subst, ap₂, arith, ltb-false}
use Rattle.std.specs.List.{remove, flat_map}
use Rattle.std.proofs.lemmas.List.{map-append}
use Rattle.std.proofs.lemmas.List.Folds.{flat_map-map}
use Rattle.labels.specs.Kind.{Kind, Lawful}
use Rattle.terms.specs.declared.Sizes.{Sizes}
use Rattle.terms.specs.declared.Sentence.{Sentence}
use Rattle.terms.specs.declared.Refusal.{Refusal}
use Rattle.terms.specs.declared.Refusal.TheVariants.{SizesOutsideLimits, MalformedSentence, BookFull, OutOfRange, NotSettled, TooFewPlaces}
use Rattle.terms.specs.Refusals.{first_fault, After, Accepted, Fills}
use Rattle.terms.specs.Places.{nodes, places, place, member, outside_limits}
use Rattle.terms.specs.Sentences.{well_formed, holdable}
use Rattle.boards.specs.Meaning.{Meaning, Same}
use Rattle.settling.specs.Settled.{Brought, BroughtOrShort}
use Rattle.books.specs.Contents.{Contents, unsettled, marked, blank_book}
use Rattle.books.specs.Settling.{SettlesBook}
use Rattle.texts.specs.declared.Misread.{Misread}
use Rattle.texts.specs.Lines.{numbered, text_of, sizes_header, sizes_line, sentences_header, sentence_line}
use Rattle.texts.specs.Texts.{Reads, BadLine}
use Rattle.texts.proofs.Once.{one_book}
use Rattle.texts.proofs.Faults.{one_bad_line}
use Rattle.texts.proofs.Relabelled.{alike_long, map_removed}
use Rattle.listings.specs.Listing.{listing}
use Rattle.listings.proofs.Same.{listing_same, settled_same, not_both, board_alike}
use Rattle.runs.specs.declared.Request.{Request}
use Rattle.runs.specs.declared.Request.TheVariants as request
use Rattle.runs.specs.Account.{Account, account, Answer, done, read, labelled, bytes}
use Rattle.runs.specs.Law.{Gives, Chain, TrueAccount}
use Rattle.runs.specs.Determined.{SameBook, Alike, AnswersAlike, same, one_number, AllAlike, Determined}

-- what is written is determined by the items and the memory
fills_one :
    (items old : List ℕ) (r s : Result ℕ Refusal) (new new' : List ℕ) → Fills items old r new → Fills items old s new' → (r ≡ s) × (new ≡ new')
fills_one items old (Ok n) (Ok m) new new' h i =
    let e : n ≡ m = h.0 ∙ sym i.0 in
    (ap Ok e, h.2 ∙ ap (λ j. items ++ drop j old) e ∙ sym i.2)
fills_one items old (Ok n) (Err f) new new' h i = absurd (let a = h.0 in let b = h.1 in let c = i.1 in omega (arith, a, b, c))
fills_one items old (Err e) (Ok m) new new' h i = absurd (let a = i.0 in let b = i.1 in let c = h.1 in omega (arith, a, b, c))
fills_one items old (Err e) (Err f) new new' h i = (ap Err (h.0 ∙ sym i.0), h.2 ∙ sym i.2)

-- what a listing leaves is determined by the mark, the listing and the memory
abbrev Listed : Bool → List ℕ → List ℕ → Result ℕ Refusal → List ℕ → Type 0
Listed settled items old r new = After (first_fault ((not settled, NotSettled) ∷ [])) r (new ≡ old) (λ r. Fills items old r new)

lists_one :
    (settled : Bool) (items old : List ℕ) (r s : Result ℕ Refusal) (new new' : List ℕ) → Listed settled items old r new → Listed settled items old s new'
    → (r ≡ s) × (new ≡ new')
lists_one true items old r s new new' h i = fills_one items old r s new new' h i
lists_one false items old r s new new' h i = (h.0 ∙ sym i.0, h.1 ∙ sym i.1)

module _ {L : Type 0} (k : Kind L) where
  equal : {o p : Answer L} → o ≡ p → AnswersAlike k o p
  equal {o} e = subst (λ (p : Answer L). AnswersAlike k o p) e same

  same_self : (b : Contents L) → SameBook k b b
  same_self b = record { sizes = refl; sentences = refl; settled = refl; cells = refl }

  same_at : {b c b' c' : Contents L} → b ≡ b' → c ≡ c' → SameBook k b' c' → SameBook k b c
  same_at {b} {c} {b'} {c'} e f h =
      subst (λ (x : Contents L). SameBook k x c) (sym e) (subst (λ (x : Contents L). SameBook k b' x) (sym f) h)

  -- the books that a call leaves are alike where the old ones are and the new ones are
  left_one :
      (fault : Option Refusal) (old old' left left' : Contents L) (r s : Result (Unit {0}) Refusal) (c d : Contents L)
      → SameBook k old old' → SameBook k left left' → After fault r (c ≡ old) (Accepted (λ u. c ≡ left))
      → After fault s (d ≡ old') (Accepted (λ u. d ≡ left')) → (r ≡ s) × SameBook k c d
  left_one (Some e) old old' left left' r s c d a b h i = (h.0 ∙ sym i.0, same_at h.1 i.1 a)
  left_one None old old' left left' (Ok u) (Ok v) c d a b h i = (refl, same_at h i b)
  left_one None old old' left left' (Ok u) (Err e) c d a b h i = absurd i
  left_one None old old' left left' (Err e) s c d a b h i = absurd h

  lines_same : (ss ts : List (Sentence L)) → map (numbered k) ts ≡ map (numbered k) ss → flat_map (λ s. sentence_line (numbered k s)) ts ≡ flat_map (λ s. sentence_line (numbered k s)) ss
  lines_same ss ts e =
      sym (flat_map-map sentence_line (numbered k) ts) ∙ ap (flat_map sentence_line) e ∙ flat_map-map sentence_line (numbered k) ss

  text_same : (b c : Contents L) → SameBook k b c → text_of k c.sizes c.sentences ≡ text_of k b.sizes b.sentences
  text_same b c h =
      ap (λ (z : Sizes). sizes_header ++ (sizes_line z ++ (sentences_header ++ flat_map (λ s. sentence_line (numbered k s)) c.sentences))) h.sizes
      ∙ ap (λ l. sizes_header ++ (sizes_line b.sizes ++ (sentences_header ++ l))) (lines_same b.sentences c.sentences h.sentences)

  module _ (laws : Lawful k) where
    -- two readings of one text
    reads_one :
        (b b' : Contents L) → b'.cells ≡ b.cells → (text : List ℕ) (r s : Result (Unit {0}) Misread) (c d : Contents L)
        → Reads k b text r c → Reads k b' text s d → (r ≡ s) × SameBook k c d
    reads_one b b' cells text (Ok u) (Ok v) c d h i =
        let can_be = subst (λ (n : ℕ). holdable n d.sizes d.sentences ≡ true) cells i.can_be in
        let one = one_book k laws b.cells c.sizes d.sizes c.sentences d.sentences h.can_be can_be (sym h.its_text ∙ i.its_text) in (
          refl,
          record {
            sizes = sym one.0;
            sentences = sym one.1;
            settled = ap (λ (x : Contents L). x.settled) i.book ∙ sym (ap (λ (x : Contents L). x.settled) h.book);
            cells = ap (λ (x : Contents L). x.cells) i.book ∙ cells ∙ sym (ap (λ (x : Contents L). x.cells) h.book);
          },
        )
    reads_one b b' cells text (Ok u) (Err bad) c d h i =
        absurd (i.no_book c.sizes c.sentences (subst (λ (n : ℕ). holdable n c.sizes c.sentences ≡ true) (sym cells) h.can_be) h.its_text)
    reads_one b b' cells text (Err bad) (Ok v) c d h i =
        absurd (h.no_book d.sizes d.sentences (subst (λ (n : ℕ). holdable n d.sizes d.sentences ≡ true) cells i.can_be) i.its_text)
    reads_one b b' cells text (Err bad) (Err worse) c d h i =
        let first = subst (λ (n : ℕ). BadLine k n text worse.refusal worse.line) cells i.first_bad in
        let one = one_bad_line k laws b.cells text bad.refusal worse.refusal bad.line worse.line h.first_bad first in
        (ap Err (λ j. record { refusal = one.0 j; line = one.1 j }), same_at h.book (i.book ∙ ap blank_book cells) (same_self (blank_book b.cells)))

    brought_alike : (z : Sizes) (ss ts : List (Sentence L)) → map (numbered k) ts ≡ map (numbered k) ss → (old m : Meaning L) → Brought k z ts old m → Brought k z ss old m
    brought_alike z ss ts e old m h =
        record { size = h.size; capacity = h.capacity; board = board_alike k laws z ss ts e m h.board; holds_them = h.holds_them }

    -- settling books that nothing tells apart, on boards that nothing tells apart
    module _ (b b' : Contents L) (books : SameBook k b b') (can_be : holdable b.cells b.sizes b.sentences ≡ true)
        (can_be' : holdable b'.cells b.sizes b'.sentences ≡ true) (old old' : Meaning L) (alike : Same k old old') (c d : Contents L) (m n : Meaning L) where
      abbrev Left : Result (Unit {0}) Refusal → Result (Unit {0}) Refusal → Type 0
      Left r s = (r ≡ s) × SameBook k c d × Same k m n

      marked_alike : (settled : Bool) → SameBook k (marked b settled) (marked b' settled)
      marked_alike settled = record { sizes = books.sizes; sentences = books.sentences; settled = refl; cells = books.cells }

      brought :
          (r s : Result (Unit {0}) Refusal) → places b.sizes ≤ old.size → (c ≡ marked b (is_ok r)) × BroughtOrShort k b.sizes b.sentences old r m
          → (d ≡ marked b' (is_ok s)) × BroughtOrShort k b.sizes b'.sentences old' s n → Left r s
      brought (Ok u) (Ok v) room h i = (
        refl,
        same_at h.0 i.0 (marked_alike true),
        record {
          size = i.1.size ∙ alike.size ∙ sym h.1.size;
          capacity = i.1.capacity ∙ alike.capacity ∙ sym h.1.capacity;
          label =
              settled_same k laws b.sizes b.cells b.sentences can_be m n h.1.board
              (board_alike k laws b.sizes b.sentences b'.sentences books.sentences n i.1.board);
        },
      )
      brought (Err e) (Err f) room h i = (
        ap Err (h.1.0 ∙ sym i.1.0),
        same_at h.0 i.0 (marked_alike false),
        record {
          size = i.1.1.board.size ∙ alike.size ∙ sym h.1.1.board.size;
          capacity = i.1.1.board.capacity ∙ alike.capacity ∙ sym h.1.1.board.capacity;
          label = λ p. i.1.1.board.none p ∙ sym (h.1.1.board.none p);
        },
      )
      brought (Ok u) (Err f) room h i =
          absurd
          (not_both k laws b.sizes b'.cells b'.sentences can_be' old m old'.capacity room alike.capacity
          (brought_alike b.sizes b'.sentences b.sentences (sym books.sentences) old m h.1) i.1.1.too_many)
      brought (Err e) (Ok v) room h i =
          let size = alike.size in
          absurd
          (not_both k laws b.sizes b.cells b.sentences can_be old' n old.capacity (omega (arith, size)) (sym alike.capacity)
          (brought_alike b.sizes b.sentences b'.sentences books.sentences old' n i.1) h.1.1.too_many)

      abbrev Found : Contents L → Sizes → Meaning L → Bool → Result (Unit {0}) Refusal → Contents L → Meaning L → Type 0
      Found book z from small r after to =
          After (first_fault ((small, TooFewPlaces) ∷ [])) r ((after ≡ book) × (to ≡ from))
          (λ r. (after ≡ marked book (is_ok r)) × BroughtOrShort k z book.sentences from r to)

      found :
          (small : Bool) → ltb old.size (places b.sizes) ≡ small → (r s : Result (Unit {0}) Refusal)
          → Found b b.sizes old small r c m → Found b' b.sizes old' small s d n → Left r s
      found true e r s h i = (
        h.0 ∙ sym i.0,
        same_at h.1.0 i.1.0 books,
        subst (λ (x : Meaning L). Same k x n) (sym h.1.1) (subst (λ (x : Meaning L). Same k old x) (sym i.1.1) alike),
      )
      found false e r s h i = brought r s (ltb-false old.size (places b.sizes) e) h i

      settles_one : (r s : Result (Unit {0}) Refusal) → SettlesBook k b old r c m → SettlesBook k b' old' s d n → Left r s
      settles_one r s h i =
          let sized = subst (λ (z : Sizes). Found b' z old' (ltb old'.size (places z)) s d n) books.sizes i in
          found (ltb old.size (places b.sizes)) refl r s h (subst (λ (j : ℕ). Found b' b.sizes old' (ltb j (places b.sizes)) s d n) alike.size sized)

  labels_one :
      (fault : Option Refusal) (x y : L) → k.number x ≡ k.number y → (r s : Result L Refusal) → After fault r (Unit {0}) (Accepted (λ l. l ≡ x)) → After fault s (Unit {0}) (Accepted (λ l. l ≡ y))
      → AnswersAlike k (labelled r) (labelled s)
  labels_one (Some e) x y numbers r s h i = equal (ap labelled (h.0 ∙ sym i.0))
  labels_one None x y numbers (Ok l) (Ok m) h i = one_number (ap k.number h ∙ numbers ∙ ap k.number (sym i))
  labels_one None x y numbers (Ok l) (Err e) h i = absurd i
  labels_one None x y numbers (Err e) s h i = absurd h

  -- the answers are these, and the accounts have these books and boards
  ends :
      {o p o' p' : Answer L} {c d : Account L} (b b' : Contents L) (m n : Meaning L) → o ≡ o' → p ≡ p' → AnswersAlike k o' p'
      → c ≡ account b m → d ≡ account b' n → SameBook k b b' → Same k m n → AnswersAlike k o p × Alike k c d
  ends {o} {p} {o'} {p'} {c} {d} b b' m n eo ep answers ec ed books boards = (
    subst (λ (o : Answer L). AnswersAlike k o p) (sym eo) (subst (λ (p : Answer L). AnswersAlike k o' p) (sym ep) answers),
    subst (λ (c : Account L). Alike k c d) (sym ec)
        (subst (λ (d : Account L). Alike k (account b m) d) (sym ed) (record { book = books; board = boards })),
  )

  module _ (laws : Lawful k) where
    -- one call, on accounts that nothing tells apart
    step :
        (a b : Account L) → TrueAccount k a → TrueAccount k b → Alike k a b → (q : Request L) (o p : Answer L) (c d : Account L)
        → Gives k a q o c → Gives k b q p d → AnswersAlike k o p × Alike k c d
    step a b t u alike (request.Size z) o p c d g h =
        let l =
        left_one (first_fault ((outside_limits z, SizesOutsideLimits) ∷ [])) a.book b.book (unsettled a.book z []) (unsettled b.book z []) g.0 h.0 g.1 h.1
        alike.book (record { sizes = refl; sentences = refl; settled = refl; cells = alike.book.cells }) g.3 h.3 in
        ends g.1 h.1 a.board b.board g.2 h.2 (equal (ap done l.0)) g.4 h.4 l.1 alike.board
    step a b t u alike (request.Enter s) o p c d g h =
        let e = alike.book in
        let fault : Sizes → ℕ → ℕ → Option Refusal = λ z cells long. first_fault ((not (well_formed z s), MalformedSentence) ∷ ((leb cells long, BookFull) ∷ [])) in
        let long = alike_long k a.book.sentences b.book.sentences e.sentences in
        let found =
        subst (λ (f : Option Refusal). After f h.0 (h.1 ≡ b.book) (Accepted (λ u. h.1 ≡ unsettled b.book b.book.sizes (b.book.sentences ++ (s ∷ [])))))
        (λ j. fault (e.sizes j) (e.cells j) (long j)) h.3 in
        let more =
        map-append (numbered k) b.book.sentences (s ∷ []) ∙ ap (λ l. l ++ (numbered k s ∷ [])) e.sentences ∙ sym (map-append (numbered k) a.book.sentences (s ∷ [])) in
        let l =
        left_one (fault a.book.sizes a.book.cells (length a.book.sentences)) a.book b.book (unsettled a.book a.book.sizes (a.book.sentences ++ (s ∷ [])))
        (unsettled b.book b.book.sizes (b.book.sentences ++ (s ∷ []))) g.0 h.0 g.1 h.1 e
        (record { sizes = e.sizes; sentences = more; settled = refl; cells = e.cells }) g.3 found in
        ends g.1 h.1 a.board b.board g.2 h.2 (equal (ap done l.0)) g.4 h.4 l.1 alike.board
    step a b t u alike (request.Withdraw i) o p c d g h =
        let e = alike.book in
        let fault : ℕ → Option Refusal = λ long. first_fault ((leb long i, OutOfRange) ∷ []) in
        let long = alike_long k a.book.sentences b.book.sentences e.sentences in
        let found =
        subst (λ (f : Option Refusal). After f h.0 (h.1 ≡ b.book) (Accepted (λ u. h.1 ≡ unsettled b.book b.book.sizes (remove b.book.sentences i))))
        (λ j. fault (long j)) h.3 in
        let less = map_removed k b.book.sentences i ∙ ap (λ l. remove l i) e.sentences ∙ sym (map_removed k a.book.sentences i) in
        let l =
        left_one (fault (length a.book.sentences)) a.book b.book (unsettled a.book a.book.sizes (remove a.book.sentences i))
        (unsettled b.book b.book.sizes (remove b.book.sentences i)) g.0 h.0 g.1 h.1 e
        (record { sizes = e.sizes; sentences = less; settled = refl; cells = e.cells }) g.3 found in
        ends g.1 h.1 a.board b.board g.2 h.2 (equal (ap done l.0)) g.4 h.4 l.1 alike.board
    step a b t u alike (request.Read text) o p c d g h =
        let l = reads_one laws a.book b.book alike.book.cells text.now g.0 h.0 g.1 h.1 g.3 h.3 in
        ends g.1 h.1 a.board b.board g.2 h.2 (equal (ap read l.0)) g.4 h.4 l.1 alike.board
    step a b t u alike (request.Write room) o p c d g h =
        let text = text_of k a.book.sizes a.book.sentences in
        let l =
        fills_one text (replicate room 0) g.0 h.0 g.1 h.1 g.3
        (subst (λ (t : List ℕ). Fills t (replicate room 0) h.0 h.1) (text_same a.book b.book alike.book) h.3) in
        ends a.book b.book a.board b.board g.2 h.2 (equal (ap₂ bytes l.0 l.1)) g.4 h.4 alike.book alike.board
    step a b t u alike request.Settle o p c d g h =
        let can_be' = subst (λ (z : Sizes). holdable b.book.cells z b.book.sentences ≡ true) alike.book.sizes u.book in
        let l = settles_one laws a.book b.book alike.book t.book can_be' a.board b.board alike.board g.1 h.1 g.2 h.2 g.0 h.0 g.4 h.4 in
        ends g.1 h.1 g.2 h.2 g.3 h.3 (equal (ap done l.0)) g.5 h.5 l.1 l.2
    step a b t u alike (request.Label x B) o p c d g h =
        let e = alike.book in
        let fault : Sizes → Bool → Option Refusal =
        λ z settled. first_fault ((leb (nodes z) x.0 || leb z.concepts B.0, OutOfRange) ∷ ((not settled, NotSettled) ∷ [])) in
        let at : Sizes → ℕ = λ z. place z (member x.0 B.0) in
        let sized = subst (λ (z : Sizes). After (fault z b.book.settled) h.0 (Unit {0}) (Accepted (λ l. l ≡ b.board.label (at z)))) e.sizes h.2 in
        let found =
        subst (λ (t : Bool). After (fault a.book.sizes t) h.0 (Unit {0}) (Accepted (λ l. l ≡ b.board.label (at a.book.sizes)))) e.settled sized in
        let l =
        labels_one (fault a.book.sizes a.book.settled) (a.board.label (at a.book.sizes)) (b.board.label (at a.book.sizes))
        (sym (alike.board.label (at a.book.sizes))) g.0 h.0 g.2 found in
        ends a.book b.book a.board b.board g.1 h.1 l g.3 h.3 e alike.board
    step a b t u alike (request.List room) o p c d g h =
        let e = alike.book in
        let old : List ℕ = replicate room 0 in
        let listed = listing k a.book.sizes a.board in
        let sized = subst (λ (z : Sizes). Listed b.book.settled (listing k z b.board) old h.0 h.1) e.sizes h.3 in
        let marked_alike = subst (λ (t : Bool). Listed t (listing k a.book.sizes b.board) old h.0 h.1) e.settled sized in
        let found =
        subst (λ (l : List ℕ). Listed a.book.settled l old h.0 h.1) (listing_same k a.book.sizes a.board b.board alike.board.label) marked_alike in
        let l = lists_one a.book.settled listed old g.0 h.0 g.1 h.1 g.3 found in
        ends a.book b.book a.board b.board g.2 h.2 (equal (ap₂ bytes l.0 l.1)) g.4 h.4 e alike.board

    calls :
        (qs : List (Request L)) (a b c d : Account L) (os ps : List (Answer L)) → Alike k a b → Chain k a qs os c → Chain k b qs ps d
        → AllAlike k os ps × Alike k c d
    calls [] a b c d [] [] alike h i =
        (tt, subst (λ (x : Account L). Alike k x d) (sym h) (subst (λ (x : Account L). Alike k a x) (sym i) alike))
    calls [] a b c d (o ∷ os) ps alike h i = absurd h
    calls [] a b c d [] (p ∷ ps) alike h i = absurd i
    calls (q ∷ qs) a b c d [] ps alike h i = absurd h
    calls (q ∷ qs) a b c d (o ∷ os) [] alike h i = absurd i
    calls (q ∷ qs) a b c d (o ∷ os) (p ∷ ps) alike h i =
        let s = step a b h.2.0 i.2.0 alike q o p h.0 i.0 h.1 i.1 in
        let rest = calls qs h.0 i.0 c d os ps s.1 h.3 i.3 in
        ((s.0, rest.0), rest.1)

    pub determined : Determined k
    determined =
        record {
          start =
              λ cells board a b f g.
              record {
                book = same_at f.book g.book (same_self (blank_book cells));
                board =
                    record {
                      size = g.board_cleared.size ∙ sym f.board_cleared.size;
                      capacity = g.board_cleared.capacity ∙ sym f.board_cleared.capacity;
                      label = λ p. g.board_cleared.none p ∙ sym (f.board_cleared.none p);
                    };
              };
          calls = calls;
        }
