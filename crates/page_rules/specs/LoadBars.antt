-- A load as bars: the segments of one trace with their starts, their slacks and the critical path,
-- where the mutual exclusions in Excludes survive. Times are in nanoseconds. This is the project's
-- own.
use Rattle.std.specs.Prelude.{◌≡◌, ◌↔◌, ℕ, ℤ, pos, ◌+ℤ◌, true, List, length, map, Contains}
use Rattle.std.specs.List.{AllZip, range_with_len}
use Rattle.evidence_rules.specs.Meetings.{IsLeastOf}
use Rattle.page_rules.specs.declared.bar.Bar.{Bar}
use Rattle.page_rules.specs.declared.load_figures.LoadFigures.{LoadFigures}
use Rattle.trace_rules.specs.CriticalPaths.{StandsFor}
use Rattle.trace_rules.specs.TraceGraphs.{IsTraceGraph}
use Rattle.trace_types.specs.Listing.{AreExactly}
use Rattle.trace_types.specs.Parts.{Parts}
use Rattle.weighted_dag.specs.Chains.{IsLongest, NoLongestIsBefore, chain_length}
use Rattle.weighted_dag.specs.Graphs.{Graph, IsGraph, order_of, weight_of}
use Rattle.weighted_dag.specs.Reductions.{IsKeptEdge}
use Rattle.weighted_dag.specs.Slacks.{IsSlack}

module _ {A S N T E : Type 0} (p : Parts A S N T E) where
  -- the bar of a vertex: it starts so long after the first time, lasts as long as the vertex weighs,
  -- has its slack, and is on the critical path where that has the vertex
  pub record IsBar (trace : A) (order : List ℕ) (graph : Graph) (chain : List ℕ) (first : ℤ) (v : ℕ)
      (bar : Bar N) : Type 0 where
    pub segment : S
    pub stands : StandsFor (p.segments trace) order v segment
    pub name : bar.name ≡ p.name segment
    pub start : (first +ℤ pos bar.start) ≡ p.start segment
    pub duration : bar.duration ≡ weight_of graph v
    pub slack : IsSlack graph v bar.slack
    pub on_path : (bar.on_path ≡ true) ↔ Contains chain v

  -- the figures and the bars of a trace: its graph, the first of the longest chains, the edges of
  -- the transitive reduction, and a bar for each vertex in order; its first time is that at which
  -- the earliest of its segments starts
  pub record IsLoad (Excludes : N → N → Type 0) (trace : A) (figures : LoadFigures)
      (bars : List (Bar N)) : Type 0 where
    pub order : List ℕ
    pub graph : Graph
    pub chain : List ℕ
    pub form : IsGraph graph
    pub dependencies : IsTraceGraph p Excludes trace order graph
    pub longest : IsLongest graph chain
    pub first_longest : NoLongestIsBefore graph chain
    pub first : ℤ
    pub first_is : IsLeastOf (map p.start (p.segments trace)) first
    pub length_is : figures.length ≡ chain_length graph chain
    pub vertices_are : figures.vertices ≡ order_of graph
    pub steps_are : figures.steps ≡ length chain
    pub edges_are : AreExactly (λ (edge : ℕ × ℕ). IsKeptEdge graph edge.0 edge.1) figures.edges
    pub bars_are : AllZip (IsBar trace order graph chain first)
        (range_with_len 0 (order_of graph)) bars
