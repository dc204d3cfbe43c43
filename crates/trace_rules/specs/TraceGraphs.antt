-- The dependency graph of a trace: M. Chow et al., "The Mystery Machine", OSDI 2014, section 3.4.
-- The order of vertices and the rule on grace are this project's own.
use Rattle.std.specs.Prelude.{◌≡◌, ◌↔◌, ℕ, pos, ◌+ℤ◌, Some, List, length, slice_get}
use Rattle.trace_types.specs.Parts.{Parts}
use Rattle.trace_types.specs.Refuting.{RefutesExclusive}
use Rattle.trace_types.specs.Surviving.{Survives}
use Rattle.trace_rules.specs.VertexOrder.{IsEarlier, IsVertexOrder}
use Rattle.weighted_dag.specs.Graphs.{Graph, IsEdge, IsGraph, weight_of}

module _ {A S N T E : Type 0} (p : Parts A S N T E) where
  -- an edge leads from the segment at i to the segment at j of the trace: the first comes before
  -- the second, and the mutual exclusion of their names survives: it is in Excludes
  pub record IsDependency (Excludes : N → N → Type 0) (trace : A) (i j : ℕ) : Type 0 where
    pub s : S
    pub t : S
    pub first : slice_get (p.segments trace) i ≡ Some s
    pub second : slice_get (p.segments trace) j ≡ Some t
    pub earlier : IsEarlier p s i t j
    pub excludes : Excludes (p.name s) (p.name t)

  -- the graph has a vertex for each segment of the trace, in their order, each with its duration in
  -- nanoseconds
  pub record HasVertices (trace : A) (order : List ℕ) (g : Graph) : Type 0 where
    pub form : IsGraph g
    pub vertices : IsVertexOrder p trace order
    pub count : length g.weights ≡ length order
    pub weights : (v i : ℕ) (s : S) → slice_get order v ≡ Some i
        → slice_get (p.segments trace) i ≡ Some s
        → (p.start s +ℤ pos (weight_of g v)) ≡ p.end s

  -- the graph of a trace where these mutual exclusions survive: its vertices are the segments in
  -- their order, and its edges the dependencies
  pub record IsTraceGraph (Excludes : N → N → Type 0) (trace : A) (order : List ℕ) (g : Graph)
      : Type 0 where
    pub has : HasVertices trace order g
    pub edges : (v w i j : ℕ) → slice_get order v ≡ Some i → slice_get order w ≡ Some j
        → IsEdge g v w ↔ IsDependency Excludes trace i j

  -- the mutual exclusions that survive in a list of traces: no trace of the list refutes that the
  -- two names are mutually exclusive
  abbrev pub ExcludesIn : List A → N → N → Type 0
  ExcludesIn traces a b = Survives (RefutesExclusive p a b) traces
