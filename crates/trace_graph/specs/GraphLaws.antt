-- What laws say of graphs: a trace has one, and segments with an edge do not overlap.
use Rattle.std.specs.Prelude.{◌≡◌, ◌⊎◌, ℕ, pos, ◌+ℤ◌, ◌≤ℤ◌, List}
use Rattle.trace_rules.specs.TraceGraphs.{IsTraceGraph}
use Rattle.trace_types.specs.Parts.{Parts}
use Rattle.weighted_dag.specs.Graphs.{Graph, IsGraph}

module _ {A S N T E : Type 0} (p : Parts A S N T E) where
  -- of two segments one ends no later than the other's start plus the trace's grace
  abbrev pub DoNotOverlap : A → S → S → Type 0
  DoNotOverlap trace s t = (p.end s ≤ℤ (p.start t +ℤ pos (p.grace trace)))
      ⊎ (p.end t ≤ℤ (p.start s +ℤ pos (p.grace trace)))

  -- where these mutual exclusions survive, two graphs of a trace are one, with one order of
  -- vertices
  abbrev pub HasOneGraph : (N → N → Type 0) → Type 0
  HasOneGraph Excludes = (trace : A) (order other : List ℕ) (g h : Graph) → IsGraph g → IsGraph h
      → IsTraceGraph p Excludes trace order g → IsTraceGraph p Excludes trace other h
      → (order ≡ other) × (g ≡ h)
