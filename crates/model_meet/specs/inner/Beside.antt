-- The pairs that a turn of the count adds.
use Rattle.std.specs.Prelude.{◌≡◌, ◌⊎◌, ℕ, ◌*◌, ◌<◌, ◌≤◌, List}
use Rattle.std.specs.declared.cmp.Ordering.{Ordering}
use Rattle.refute_tests.specs.Survivors.{AreSurvivors}
use Rattle.trace_rules.specs.Pipes.{IsPipeline}
use Rattle.trace_types.specs.declared.named_trace.NamedTrace.{NamedTrace}
use Rattle.trace_types.specs.Listing.{AreExactly}
use Rattle.trace_types.specs.Parts.{by_number}
use Rattle.trace_types.specs.Relations.{HappensBefore, ExcludesUnordered}
use Rattle.model_meet.specs.Counting.{CountsPairs, OrdersBelow}
use Rattle.model_meet.specs.RelationBits.{HasOrder, HasExclusion, HasPipe}

-- one of the pair is this number, and the other is below the limit
abbrev pub IsBeside : ℕ → ℕ → ℕ × ℕ → Type 0
IsBeside number limit pair =
    ((pair.0 ≡ number) × (pair.1 < limit)) ⊎ ((pair.1 ≡ number) × (pair.0 < limit))

-- exactly n ordered pairs of this number and one below the limit are in the relation
abbrev pub CountsBeside : ℕ → ℕ → (ℕ → ℕ → Type 0) → ℕ → Type 0
CountsBeside number limit R n =
    AreExactly (λ (pair : ℕ × ℕ). IsBeside number limit pair × R pair.0 pair.1) n

-- n counts these pairs by the bits of some words, and by meaning for all traces that these tell of
pub record AreBeside (words : List ℕ) (Bits : ℕ → ℕ → Type 0)
    (Meaning : List NamedTrace → ℕ → ℕ → Type 0) (number limit n : ℕ) : Type 0 where
  pub bits : CountsBeside number limit Bits n
  pub told : (traces : List NamedTrace) → AreSurvivors traces words
      → CountsBeside number limit (Meaning traces) n
  pub few : n ≤ 2 * limit

-- the same of all ordered pairs below the limit
pub record AreBelow (words : List ℕ) (Bits : ℕ → ℕ → Type 0)
    (Meaning : List NamedTrace → ℕ → ℕ → Type 0) (limit n : ℕ) : Type 0 where
  pub bits : CountsPairs limit Bits n
  pub told : (traces : List NamedTrace) → AreSurvivors traces words
      → CountsPairs limit (Meaning traces) n
  pub few : n ≤ 1024 * limit

-- n counts ordered pairs of this number and one below the limit: the first happens before the other
abbrev pub AreOrdersBeside : List ℕ → ℕ → ℕ → ℕ → Type 0
AreOrdersBeside words = AreBeside words (HasOrder words) (HappensBefore by_number)

-- n counts ordered pairs of numbers below the limit: the first happens before the other
abbrev pub AreOrdersBelow : List ℕ → ℕ → ℕ → Type 0
AreOrdersBelow words = AreBelow words (HasOrder words) (HappensBefore by_number)

-- n counts pairs of this number and one below the limit that are mutually exclusive with no fixed
-- order: by the bits the lesser number first, and by meaning in every order of the names
pub record AreExclusionsBeside (words : List ℕ) (names number limit n : ℕ) : Type 0 where
  pub bits : CountsBeside number limit (λ a b. (a < b) × HasExclusion words a b) n
  pub told : (traces : List NamedTrace) (cmp : ℕ → ℕ → Ordering) → AreSurvivors traces words
      → OrdersBelow names cmp → CountsBeside number limit (ExcludesUnordered by_number cmp traces) n
  pub few : n ≤ 2 * limit

-- n counts such exclusions of all pairs of numbers below the limit
pub record AreExclusionsBelow (words : List ℕ) (names limit n : ℕ) : Type 0 where
  pub bits : CountsPairs limit (λ a b. (a < b) × HasExclusion words a b) n
  pub told : (traces : List NamedTrace) (cmp : ℕ → ℕ → Ordering) → AreSurvivors traces words
      → OrdersBelow names cmp → CountsPairs limit (ExcludesUnordered by_number cmp traces) n
  pub few : n ≤ 1024 * limit

-- n counts ordered pairs of this task and one below the limit that are a pipeline
abbrev pub ArePipesBeside : List ℕ → ℕ → ℕ → ℕ → Type 0
ArePipesBeside words = AreBeside words (HasPipe words) (IsPipeline by_number)

-- n counts ordered pairs of tasks below the limit that are a pipeline
abbrev pub ArePipesBelow : List ℕ → ℕ → ℕ → Type 0
ArePipesBelow words = AreBelow words (HasPipe words) (IsPipeline by_number)
