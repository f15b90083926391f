-- Sizes, nodes, and the place of each membership and link. Assumes nothing.
use Rattle.std.specs.Prelude.{◌≡◌, ℕ, ◌+◌, ◌*◌, ◌/◌, ◌<◌, ◌≤◌, Bool, false, ◌&&◌, ◌||◌, T, ◌==◌, nat_lt}
use Rattle.terms.specs.declared.Sizes.{Sizes}

-- c, m or n outside its limits: 1 to 512 concepts, 0 to 32 roles, 0 to 512 units
abbrev pub outside_limits : Sizes → Bool
outside_limits z = z.concepts == 0 || (nat_lt 512 z.concepts || (nat_lt 32 z.roles || nat_lt 512 z.individuals))

-- N: node A below c is concept A, and node c + u is unit u
abbrev pub nodes : Sizes → ℕ
nodes z = z.concepts + z.individuals

-- a fact that may hold in a view: node x is a B, or x has an r-link to node y
pub data Fact : Type 0 where
  member : (x B : ℕ) → Fact
  link : (x r y : ℕ) → Fact

-- the fact names only nodes, concepts and roles that there are
abbrev pub in_range : Sizes → Fact → Bool
in_range z (member x B) = nat_lt x (nodes z) && nat_lt B z.concepts
in_range z (link x r y) = nat_lt x (nodes z) && (nat_lt r z.roles && nat_lt y (nodes z))

-- the place of a fact: x × c + B, and N × c + (x × m + r) × N + y
abbrev pub place : Sizes → Fact → ℕ
place z (member x B) = x * z.concepts + B
place z (link x r y) = nodes z * z.concepts + (x * z.roles + r) * nodes z + y

-- F: all places lie below it
abbrev pub places : Sizes → ℕ
places z = nodes z * (z.concepts + z.roles * nodes z)

-- F / 64, rounded up: the words of a sheet
abbrev pub word_count : Sizes → ℕ
word_count z = (places z + 63) / 64

-- within the limits each fact in range has a place of its own below F, each place below F is that of a fact in range, and F is at most 34,078,720
pub record OneFactEach (z : Sizes) : Type 0 where
  pub few : places z ≤ 34078720
  pub below : (f : Fact) → T (in_range z f) → place z f < places z
  pub apart : (f g : Fact) → T (in_range z f) → T (in_range z g) → place z f ≡ place z g → f ≡ g
  pub every : (p : ℕ) → p < places z → (f : Fact) × T (in_range z f) × (place z f ≡ p)

-- so it is for all sizes within the limits
abbrev pub EachPlaceIsOfOneFact : Type 0
EachPlaceIsOfOneFact = (z : Sizes) → outside_limits z ≡ false → OneFactEach z
