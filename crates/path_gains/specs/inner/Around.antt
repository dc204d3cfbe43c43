-- What the private steps towards the gains keep. Private contracts alone cite this file.
use Rattle.std.specs.Prelude.{◌≡◌, ℕ, ◌+◌, ◌<◌, ◌≤◌, List, slice_index, Contains, ◌⊎◌}
use Rattle.path_gains.specs.Gains.{with_weight_at}
use Rattle.slack.specs.inner.Passes.{IsLongestInto}
use Rattle.weighted_dag.specs.Chains.{IsChain, IsLongestFrom, chain_length}
use Rattle.weighted_dag.specs.Graphs.{Graph, IsEdge, order_of, weight_of}

-- the greatest lengths of what leads to each vertex, and of the chains that begin with it
pub record AreLengths (g : Graph) (into from : List ℕ) : Type 0 where
  pub into_is : (v : ℕ) → v < order_of g → IsLongestInto g v (slice_index into v)
  pub from_is : (v : ℕ) → v < order_of g → IsLongestFrom g v (slice_index from v)

-- a chain of this length, whatever v weighs
pub record IsChainAround (g : Graph) (v n : ℕ) (c : List ℕ) : Type 0 where
  pub chain : IsChain g c
  pub length : chain_length g c ≡ n
  pub always : (w : ℕ) → chain_length (with_weight_at g v w) c ≡ n

-- the greatest length of the chains that end before v, begin after v or jump over v, so far as the
-- last vertex before v or the first after it, or the start of the jump, is below u
pub record IsAroundBelow (g : Graph) (into from : List ℕ) (u v n : ℕ) : Type 0 where
  pub before : (x : ℕ) → x < u → x < v → slice_index into x + weight_of g x ≤ n
  pub after : (x : ℕ) → x < u → v < x → slice_index from x ≤ n
  pub over : (x y : ℕ) → x < u → x < v → v < y → IsEdge g x y
      → slice_index into x + weight_of g x + slice_index from y ≤ n
  pub reached : (c : List ℕ) × IsChainAround g v n c

-- the number of v was raised to the least of each jump over it from before `low` to one of the
-- indices
pub record IsRaisedOver (indices from : List ℕ) (low least v old new : ℕ) : Type 0 where
  pub stays : old ≤ new
  pub upper : (y : ℕ) → Contains indices y → low ≤ v → v < y → least + slice_index from y ≤ new
  pub reached : (new ≡ old) ⊎ ((y : ℕ) × Contains indices y × (low ≤ v) × (v < y)
      × (new ≡ least + slice_index from y))
