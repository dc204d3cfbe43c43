-- What holds of the gains of a graph's vertices.
use Rattle.std.specs.Prelude.{◌≡◌, ℕ, ◌<◌, ◌≤◌, List, Contains}
use Rattle.path_gains.specs.Gains.{IsGain}
use Rattle.path_gains.specs.declared.gain.Gain.{Gain}
use Rattle.weighted_dag.specs.Chains.{IsLongest}
use Rattle.weighted_dag.specs.Graphs.{Graph, IsGraph, order_of, weight_of}

-- a vertex gains no more with half its weight than with none, and with none at most its weight
abbrev pub GainsAreBounded : Type 0
GainsAreBounded = (g : Graph) (v : ℕ) (gain : Gain) → IsGraph g → v < order_of g → IsGain g v gain
    → (gain.half ≤ gain.none) × (gain.none ≤ weight_of g v)

-- a vertex that is not on some longest chain gains nothing
abbrev pub OthersGainNothing : Type 0
OthersGainNothing = (g : Graph) (c : List ℕ) (v : ℕ) (gain : Gain) → IsGraph g → v < order_of g
    → IsLongest g c → ¬ Contains c v → IsGain g v gain → (gain.none ≡ 0) × (gain.half ≡ 0)

-- a vertex has one gain
abbrev pub GainsAreOne : Type 0
GainsAreOne = (g : Graph) (v : ℕ) (gain other : Gain) → IsGain g v gain → IsGain g v other
    → gain ≡ other
