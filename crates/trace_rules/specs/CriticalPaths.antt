-- The critical path of a trace: M. Chow et al., "The Mystery Machine", OSDI 2014, section 3.4. The
-- order among equal chains is this project's own.
use Rattle.std.specs.Prelude.{◌≡◌, ℕ, List, Some, slice_get}
use Rattle.std.specs.List.{AllZip}
use Rattle.trace_types.specs.Parts.{Parts}
use Rattle.trace_rules.specs.TraceGraphs.{IsTraceGraph}
use Rattle.weighted_dag.specs.Chains.{IsLongest, NoLongestIsBefore}
use Rattle.weighted_dag.specs.Graphs.{Graph, IsGraph}

-- the vertex v stands for the segment s, where the vertices stand for the segments at these indices
abbrev pub StandsFor : {S : Type 0} → List S → List ℕ → ℕ → S → Type 0
StandsFor segments order v s =
    (i : ℕ) × (slice_get order v ≡ Some i) × (slice_get segments i ≡ Some s)

module _ {A S N T E : Type 0} (p : Parts A S N T E) where
  -- the critical path of a trace where these mutual exclusions survive: the segments on the first
  -- longest chain of its graph, in order
  pub record IsCriticalPath (Excludes : N → N → Type 0) (trace : A) (path : List S) : Type 0 where
    pub order : List ℕ
    pub graph : Graph
    pub chain : List ℕ
    pub form : IsGraph graph
    pub dependencies : IsTraceGraph p Excludes trace order graph
    pub longest : IsLongest graph chain
    pub first : NoLongestIsBefore graph chain
    pub segments : AllZip (StandsFor (p.segments trace) order) chain path

  -- the critical path of each trace of a list, in their order
  abbrev pub AreCriticalPaths : (N → N → Type 0) → List A → List (List S) → Type 0
  AreCriticalPaths Excludes traces paths = AllZip (IsCriticalPath Excludes) traces paths
