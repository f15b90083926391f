-- What holds in every world of a view, and the theorems about it. Assumes nothing.
use Rattle.std.specs.Prelude.{◌≡◌, ℕ, ◌+◌, ◌<◌, ◌≤◌, Bool, true, T, ◌↔◌, List, length}
use Rattle.labels.specs.Kind.{Kind}
use Rattle.terms.specs.declared.Sizes.{Sizes}
use Rattle.terms.specs.declared.Sentence.{Sentence}
use Rattle.terms.specs.Lists.{◌∈◌}
use Rattle.terms.specs.Sentences.{holdable}
use Rattle.terms.specs.Places.{nodes, Fact, member, link}
use Rattle.theory.specs.World.{World, WorldOf, meant}
use Rattle.theory.specs.Rules.{Derives, in_view}
use Rattle.theory.specs.Description.{Description, done, name, Fits, role_depth, SaysYes, description}

-- a table of facts as a world: its elements are the nodes, and unit u is node c + u
abbrev pub table_world : Sizes → (Fact → Bool) → World
table_world z so =
    record {
      count = nodes z;
      concept = λ B x. so (member x B);
      role = λ r x y. so (link x r y);
      unit = λ u. z.concepts + u;
    }

module _ {L : Type 0} (z : Sizes) (ss : List (Sentence L)) where
  -- every world of these sentences says yes of node x to D
  abbrev pub EveryWorldSaysYes : ℕ → Description → Type 0
  EveryWorldSaysYes x D = (w : World) → WorldOf z ss w → SaysYes z (meant w) x D

  -- D implies E in each world of these sentences: all that fits D fits E
  abbrev pub Implies : Description → Description → Type 0
  Implies D E = (w : World) → WorldOf z ss w → (e : ℕ) → e < w.count → Fits (meant w) e D → Fits (meant w) e E

  -- D is a least common description of the nodes: every world says yes of each to D, and D implies every description of role depth at most k of which that is so
  pub record LeastCommon (k : ℕ) (xs : List ℕ) (D : Description) : Type 0 where
    pub no_deeper : role_depth D ≤ k
    pub yes_of_each : (x : ℕ) → x ∈ xs → EveryWorldSaysYes x D
    pub implies_others :
        (E : Description) → role_depth E ≤ k → ((x : ℕ) → x ∈ xs → EveryWorldSaysYes x E) → Implies D E

  -- the table has just the facts that follow
  abbrev pub ShowsDerived : (Fact → Bool) → Type 0
  ShowsDerived so = (f : Fact) → T (so f) ↔ Derives z ss f

  -- what is so of every table that has just the facts that follow from sentences of a book
  pub record Canonical (so : Fact → Bool) : Type 0 where
    -- a membership follows exactly when every world says so
    pub membership : (x B : ℕ) → x < nodes z → Derives z ss (member x B) ↔ EveryWorldSaysYes x (name B done)
    -- the table is itself a world of the sentences
    pub is_world : WorldOf z ss (table_world z so)
    -- a node fits there, the table says yes of it, and every world says yes of it: these are one
    pub node_fits : (x : ℕ) → x < nodes z → (D : Description) → Fits (meant (table_world z so)) x D ↔ EveryWorldSaysYes x D
    pub table_says : (x : ℕ) → x < nodes z → (D : Description) → SaysYes z (meant (table_world z so)) x D ↔ EveryWorldSaysYes x D
    -- the description of nodes is a least common one
    pub describes :
        (k : ℕ) (xs : List ℕ) → 1 ≤ length xs → ((x : ℕ) → x ∈ xs → x < nodes z) → LeastCommon k xs (description z so k xs)

-- the theory of one view
abbrev pub Theory : Type 0 → Type 0
Theory L =
    (z : Sizes) (cells : ℕ) (ss : List (Sentence L)) → holdable cells z ss ≡ true → (so : Fact → Bool) → ShowsDerived z ss so → Canonical z ss so

-- the label holds a view exactly when the membership of node x in B is so in every world that keeps that view's sentences
abbrev pub HoldsWhatEveryWorldSays : {L : Type 0} → Kind L → Sizes → List (Sentence L) → (x B : ℕ) → L → Type 0
HoldsWhatEveryWorldSays k z ss x B l =
    (v : ℕ) → v < k.views → (k.holds l v ≡ true) ↔ EveryWorldSaysYes z (in_view k v ss) x (name B done)

-- the same of every membership's label
abbrev pub LabelsHoldWhatEveryWorldSays : {L : Type 0} → Kind L → Sizes → List (Sentence L) → (Fact → L) → Type 0
LabelsHoldWhatEveryWorldSays k z ss label =
    (x B : ℕ) → x < nodes z → B < z.concepts → HoldsWhatEveryWorldSays k z ss x B (label (member x B))
