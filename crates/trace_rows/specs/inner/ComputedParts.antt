-- What is computed of a trace of a book before its part is printed.
use Rattle.std.specs.Prelude.{◌≡◌, ℕ, ◌↔◌, List, length, slice_index}
use Rattle.std.specs.List.{EachIndex}
use Rattle.trace_rules.specs.TraceGraphs.{IsTraceGraph}
use Rattle.trace_rows.specs.inner.NumberedTraces.{IsNumbered}
use Rattle.judged_books.specs.JudgedBooks.{JudgedState}
use Rattle.model_meet.specs.RelationBits.{KeepsExclusion}
use Rattle.trace_types.specs.Parts.{by_number}
use Rattle.trace_types.specs.declared.named_trace.NamedTrace.{NamedTrace}
use Rattle.weighted_dag.specs.Chains.{IsChain, IsLongestLength, NoLongestIsBefore, NoneIsLonger}
use Rattle.weighted_dag.specs.Chains.{chain_length}
use Rattle.weighted_dag.specs.Graphs.{Graph, IsEdge, IsGraph, order_of}
use Rattle.weighted_dag.specs.Reductions.{IsKeptEdge}
use Rattle.weighted_dag.specs.Slacks.{IsSlack}

-- the graph of a trace by the mutual exclusions that the words of a book keep; entry v of the order is the index
-- of vertex v's segment
pub record IsGraphUnderBook (b : JudgedState) (t : NamedTrace) (order : List ℕ) (g : Graph)
    : Type 0 where
  pub form : IsGraph g
  pub graph : IsTraceGraph by_number (KeepsExclusion b.words) t order g
  pub numbered : IsNumbered (record {
    names = b.book.known.names;
    trace = t;
    order = order;
    weights = g.weights;
  })

-- the first longest chain of a trace's graph, whose vertices have this order, and its length
pub record IsPathUnderBook (b : JudgedState) (t : NamedTrace) (order : List ℕ) (graph : Graph)
    (total : ℕ) (chain : List ℕ) : Type 0 where
  pub of_trace : IsGraphUnderBook b t order graph
  pub chained : IsChain graph chain
  pub none_longer : NoneIsLonger graph (chain_length graph chain)
  pub first : NoLongestIsBefore graph chain
  pub adds_up : total ≡ chain_length graph chain

-- the longest length of a trace's graph, whose vertices have this order, and the slack of each
-- vertex
pub record AreSlacksUnderBook (b : JudgedState) (t : NamedTrace) (order : List ℕ) (graph : Graph)
    (longest : ℕ) (slacks : List ℕ) : Type 0 where
  pub of_trace : IsGraphUnderBook b t order graph
  pub is_longest : IsLongestLength graph longest
  pub entries : length slacks ≡ order_of graph
  pub each : EachIndex graph.weights (λ v. IsSlack graph v (slice_index slacks v))

-- the transitive reduction of the graph of a trace
pub record IsReducedUnderBook (b : JudgedState) (t : NamedTrace) (order : List ℕ)
    (reduced : Graph) : Type 0 where
  pub whole : Graph
  pub of_trace : IsGraphUnderBook b t order whole
  pub form : IsGraph reduced
  pub weights : reduced.weights ≡ whole.weights
  pub edges : (v w : ℕ) → IsEdge reduced v w ↔ IsKeptEdge whole v w
