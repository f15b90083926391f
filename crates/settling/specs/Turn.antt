-- What the parts of settling do to a board: the contracts of the private functions. Assumes nothing.
use Rattle.std.specs.Prelude.{◌≡◌, ℕ, ◌+◌, ◌*◌, ◌/◌, ◌%◌, ◌<◌, ◌≤◌, Bool, true, false, not, T, List, [], ◌∷◌, Ok, Err, Result, ◌≢◌}
use Rattle.std.specs.List.{AllByRecursion}
use Rattle.labels.specs.Kind.{Kind, Covers}
use Rattle.terms.specs.declared.Sizes.{Sizes}
use Rattle.terms.specs.declared.Sentence.{Sentence}
use Rattle.terms.specs.declared.Refusal.{Refusal}
use Rattle.terms.specs.declared.Refusal.TheVariants.{BoardFull}
use Rattle.terms.specs.Lists.{◌∈◌, each, count}
use Rattle.terms.specs.Places.{outside_limits, nodes, places, Fact, member, link, in_range}
use Rattle.terms.specs.Sentences.{well_formed}
use Rattle.theory.specs.Rules.{in_view, Derives, Overfull}
use Rattle.boards.specs.Meaning.{Meaning, Put, occupied}
use Rattle.settling.specs.Settled.{label_on, Brought}

-- what a part needs: sizes within the limits, sentences for these sizes, and a board with a place for each fact
pub record Ready {L : Type 0} (z : Sizes) (ss : List (Sentence L)) (m : Meaning L) : Type 0 where
  pub within_limits : outside_limits z ≡ false
  pub for_sizes : each (well_formed z) ss ≡ true
  pub room : places z ≤ m.size

-- each sentence used is one of ss
abbrev pub AllIn : {L : Type 0} → (used ss : List (Sentence L)) → Type 0
AllIn {L} used ss = (s : Sentence L) → s ∈ used → s ∈ ss

-- a put that is left out where it brings nothing: true where the label grew
abbrev pub Gained : {L : Type 0} → Kind L → (old : Meaning L) → ℕ → L → Result Bool Refusal → (new : Meaning L) → Type 0
Gained k old place t (Ok true) new =
    Put k old place t (Ok tt) new × (k.number (k.either (old.label place) t) ≢ k.number (old.label place))
Gained k old place t (Ok false) new = (new ≡ old) × (k.number (k.either (old.label place) t) ≡ k.number (old.label place))
Gained k old place t (Err e) new = Put k old place t (Err e) new

module _ {L : Type 0} (k : Kind L) (z : Sizes) where
  -- each view that the board holds is that of a fact which follows in the view, and it holds none past the places
  pub record Justified (ss : List (Sentence L)) (m : Meaning L) : Type 0 where
    pub derived :
        (f : Fact) (v : ℕ) → T (in_range z f) → v < k.views → k.holds (label_on k z m f) v ≡ true → Derives z (in_view k v ss) f
    pub none_past : (p : ℕ) → places z ≤ p → k.number (m.label p) ≡ 0

  -- how many views of how many places the board does not hold: it falls with each round but the last
  abbrev pub lacking : Meaning L → ℕ
  lacking m = count (λ i. not (k.holds (m.label (i / k.views)) (i % k.views))) (places z * k.views)

  -- a part that uses these sentences is done: the board keeps what it held, and all that it holds now follows if what it held did
  pub record Grown (used : List (Sentence L)) (old new : Meaning L) : Type 0 where
    pub size : new.size ≡ old.size
    pub capacity : new.capacity ≡ old.capacity
    pub keeps : (p : ℕ) → Covers k (new.label p) (old.label p)
    pub justified : (ss : List (Sentence L)) → AllIn used ss → Justified ss old → Justified ss new
    pub fits : occupied k old ≤ old.capacity → occupied k new ≤ new.capacity

  -- the same, told whether the board grew; where it did not, its labels have what the part asks
  pub record Turn (used : List (Sentence L)) (Asks : (Fact → L) → Type 0) (old new : Meaning L) (grew : Bool) : Type 0 where
    pub grown : Grown used old new
    pub idle : grew ≡ false → new ≡ old
    pub done : grew ≡ false → Asks (label_on k z old)
    pub less : grew ≡ true → lacking new < lacking old

  -- a part is refused: more labels that follow are not none than the capacity
  pub record Refused (used : List (Sentence L)) (old new : Meaning L) : Type 0 where
    pub size : new.size ≡ old.size
    pub capacity : new.capacity ≡ old.capacity
    pub overfull : (ss : List (Sentence L)) → AllIn used ss → Justified ss old → Overfull k z ss old.capacity

  -- a part of settling: done, or refused 8
  abbrev pub Turned :
      (used : List (Sentence L)) → (Asks : (Fact → L) → Type 0) → (old : Meaning L) → Result Bool Refusal → (new : Meaning L) → Type 0
  Turned used Asks old (Ok grew) new = Turn used Asks old new grew
  Turned used Asks old (Err e) new = (e ≡ BoardFull) × Refused used old new

  -- what a sentence of form 4 asks of the labels at the nodes x and y
  abbrev pub AtLink : Sentence L → (x y : ℕ) → (Fact → L) → Type 0
  AtLink s x y label =
      Covers k (label (member x s.third)) (k.both s.label (k.both (label (link x s.role y)) (label (member y s.first))))

  -- what a sentence asks of the labels at the node x
  pub record AtNode (s : Sentence L) (x : ℕ) (label : Fact → L) : Type 0 where
    pub form_1 : s.form ≡ 1 → Covers k (label (member x s.third)) (k.both s.label (label (member x s.first)))
    pub form_2 :
        s.form ≡ 2
        → Covers k (label (member x s.third)) (k.both s.label (k.both (label (member x s.first)) (label (member x s.second))))
    pub form_3 : s.form ≡ 3 → Covers k (label (link x s.role s.third)) (k.both s.label (label (member x s.first)))
    pub form_4 : s.form ≡ 4 → (y : ℕ) → y < nodes z → AtLink s x y label

  -- what a sentence asks of the labels
  pub record Obeys (s : Sentence L) (label : Fact → L) : Type 0 where
    pub at_node : (x : ℕ) → x < nodes z → AtNode s x label
    pub form_5 : s.form ≡ 5 → Covers k (label (member (z.concepts + s.first) s.third)) s.label
    pub form_6 : s.form ≡ 6 → Covers k (label (link (z.concepts + s.first) s.role (z.concepts + s.third))) s.label

  -- what each sentence of a list asks of the labels
  abbrev pub ObeysAll : List (Sentence L) → (Fact → L) → Type 0
  ObeysAll ss label = AllByRecursion (λ s. Obeys s label) ss

  -- a sentence applied at the node x, and through the link of x to y
  abbrev pub AppliedAt : Sentence L → (x : ℕ) → (old : Meaning L) → Result Bool Refusal → (new : Meaning L) → Type 0
  AppliedAt s x old r new = Turned (s ∷ []) (AtNode s x) old r new

  abbrev pub AppliedThrough : Sentence L → (x y : ℕ) → (old : Meaning L) → Result Bool Refusal → (new : Meaning L) → Type 0
  AppliedThrough s x y old r new = Turned (s ∷ []) (AtLink s x y) old r new

  -- a sentence applied wherever it speaks, and each of a list
  abbrev pub Applied : Sentence L → (old : Meaning L) → Result Bool Refusal → (new : Meaning L) → Type 0
  Applied s old r new = Turned (s ∷ []) (Obeys s) old r new

  abbrev pub AppliedAll : List (Sentence L) → (old : Meaning L) → Result Bool Refusal → (new : Meaning L) → Type 0
  AppliedAll ss old r new = Turned ss (ObeysAll ss) old r new

  -- the first n of a row of facts have every view
  pub record Seeded (row : ℕ → Fact) (n : ℕ) (old new : Meaning L) : Type 0 where
    pub grown : Grown [] old new
    pub every_view : (x : ℕ) → x < n → Covers k (label_on k z new (row x)) k.all

  -- seeding a row of n facts: done, or refused 8
  abbrev pub Seeds : (row : ℕ → Fact) → (n : ℕ) → (old : Meaning L) → Result (Unit {0}) Refusal → (new : Meaning L) → Type 0
  Seeds row n old (Ok u) new = Seeded row n old new
  Seeds row n old (Err e) new = (e ≡ BoardFull) × Refused [] old new

  -- filling a cleared board: the settled labels, or refused 8 with the board left as it was then
  abbrev pub Filled : List (Sentence L) → (old : Meaning L) → Result (Unit {0}) Refusal → (new : Meaning L) → Type 0
  Filled ss old (Ok u) new = Brought k z ss old new
  Filled ss old (Err e) new = (e ≡ BoardFull) × Refused ss old new
