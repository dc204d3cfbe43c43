-- The path of a graph whose vertices stand for segments.
use Rattle.std.specs.Prelude.{ℕ, List}
use Rattle.std.specs.List.{AllZip}
use Rattle.trace_rules.specs.CriticalPaths.{StandsFor}
use Rattle.weighted_dag.specs.Chains.{IsLongest, NoLongestIsBefore}
use Rattle.weighted_dag.specs.Graphs.{Graph}

-- the segments on the first longest chain of the graph, in order, where its vertices stand for the
-- segments at these indices
pub record IsPathIn {S : Type 0} (segments : List S) (order : List ℕ) (g : Graph) (path : List S)
    : Type 0 where
  pub chain : List ℕ
  pub longest : IsLongest g chain
  pub first : NoLongestIsBefore g chain
  pub stands : AllZip (StandsFor segments order) chain path
