-- The printed texts of one kept trace where the mutual exclusions in Excludes survive: its critical
-- path, its slacks and its graph. Times are in nanoseconds.
use Rattle.std.specs.Prelude.{◌≡◌, ℕ, ◌<◌, ◌++◌, ◌↔◌, List, [], ◌∷◌, length, codes, decimal}
use Rattle.std.specs.Prelude.{slice_get, slice_index}
use Rattle.std.specs.List.{flat_map, range_with_len}
use Rattle.std.specs.Option.{option_map_or}
use Rattle.text_rows.specs.Rows.{row_of}
use Rattle.trace_rules.specs.TraceGraphs.{IsTraceGraph}
use Rattle.trace_types.specs.Segments.{SegmentName, name_of}
use Rattle.weighted_dag.specs.Chains.{IsLongest, IsLongestLength, NoLongestIsBefore, chain_length}
use Rattle.weighted_dag.specs.Graphs.{Graph, IsEdge, IsGraph, order_of, successors_of, weight_of}
use Rattle.weighted_dag.specs.Reductions.{IsKeptEdge}
use Rattle.weighted_dag.specs.Slacks.{IsSlack}
use Rattle.session_rules.specs.KeptTraces.{Kept, by_kept}

-- the graph of a kept trace where these mutual exclusions survive; entry v of the order is the
-- index of vertex v's segment
pub record IsGraphOf (Excludes : SegmentName → SegmentName → Type 0) (k : Kept) (order : List ℕ)
    (graph : Graph) : Type 0 where
  pub keeps : IsGraph graph
  pub of_trace : IsTraceGraph by_kept Excludes k order graph

-- the name of a vertex's segment
abbrev pub name_of_vertex : Kept → List ℕ → ℕ → SegmentName
name_of_vertex k order v =
    option_map_or name_of (slice_get k.trace.segments (slice_index order v)) ([], [], [])

-- a row of a trace: a word, its request, its day, its latency and more fields
abbrev pub trace_row : List ℕ → Kept → List (List ℕ) → List ℕ
trace_row word k more =
    row_of (word ∷ k.trace.request ∷ decimal k.trace.day ∷ decimal k.trace.latency ∷ more)

-- `path`, the trace, the length of its critical path and the number of steps; then a row for each
-- step: `step`, the name and its duration
abbrev pub path_text : Kept → List ℕ → Graph → List ℕ → List ℕ
path_text k order graph chain =
    trace_row (codes "path") k
    (decimal (chain_length graph chain) ∷ decimal (length chain) ∷ [])
    ++ flat_map (λ v. row_of (codes "step"
    ∷ (name_of_vertex k order v).0 ∷ (name_of_vertex k order v).1 ∷ (name_of_vertex k order v).2
    ∷ decimal (weight_of graph v) ∷ [])) chain

-- the bytes are the text of the critical path of a kept trace: of its longest chains the first
pub record IsPathText (Excludes : SegmentName → SegmentName → Type 0) (k : Kept)
    (bytes : List ℕ) : Type 0 where
  pub order : List ℕ
  pub graph : Graph
  pub chain : List ℕ
  pub is : IsGraphOf Excludes k order graph
  pub longest : IsLongest graph chain
  pub first : NoLongestIsBefore graph chain
  pub text : bytes ≡ path_text k order graph chain

-- `trace`, the trace and the length of its critical path; then a row for each vertex: `segment`,
-- the name, its duration and its slack
abbrev pub slack_text : Kept → List ℕ → Graph → ℕ → List ℕ → List ℕ
slack_text k order graph longest slacks =
    trace_row (codes "trace") k (decimal longest ∷ [])
    ++ flat_map (λ v. row_of (codes "segment"
    ∷ (name_of_vertex k order v).0 ∷ (name_of_vertex k order v).1 ∷ (name_of_vertex k order v).2
    ∷ decimal (weight_of graph v) ∷ decimal (slice_index slacks v) ∷ []))
    (range_with_len 0 (order_of graph))

-- the bytes are the text of the slacks of a kept trace
pub record IsSlackText (Excludes : SegmentName → SegmentName → Type 0) (k : Kept)
    (bytes : List ℕ) : Type 0 where
  pub order : List ℕ
  pub graph : Graph
  pub longest : ℕ
  pub slacks : List ℕ
  pub is : IsGraphOf Excludes k order graph
  pub length : IsLongestLength graph longest
  pub each : (v : ℕ) → v < order_of graph → IsSlack graph v (slice_index slacks v)
  pub text : bytes ≡ slack_text k order graph longest slacks

-- the edges of a graph, by their starts and then by their ends
abbrev pub edges_of : Graph → List (ℕ × ℕ)
edges_of g =
    flat_map (λ v. flat_map (λ w. (v, w) ∷ []) (successors_of g v)) (range_with_len 0 (order_of g))

-- `trace`, the trace and the numbers of vertices and edges; then a row for each vertex: `vertex`,
-- its number, the name and its duration; then one for each edge: `edge` and its two vertices
abbrev pub graph_text : Kept → List ℕ → Graph → List ℕ
graph_text k order graph =
    trace_row (codes "trace") k
    (decimal (order_of graph) ∷ decimal (length (edges_of graph)) ∷ [])
    ++ (flat_map (λ v. row_of (codes "vertex" ∷ decimal v
    ∷ (name_of_vertex k order v).0 ∷ (name_of_vertex k order v).1 ∷ (name_of_vertex k order v).2
    ∷ decimal (weight_of graph v) ∷ [])) (range_with_len 0 (order_of graph))
    ++ flat_map (λ (edge : ℕ × ℕ).
    row_of (codes "edge" ∷ decimal edge.0 ∷ decimal edge.1 ∷ [])) (edges_of graph))

-- the bytes are the text of the transitive reduction of the graph of a kept trace
pub record IsGraphText (Excludes : SegmentName → SegmentName → Type 0) (k : Kept)
    (bytes : List ℕ) : Type 0 where
  pub order : List ℕ
  pub graph : Graph
  pub reduced : Graph
  pub is : IsGraphOf Excludes k order graph
  pub keeps : IsGraph reduced
  pub weights : reduced.weights ≡ graph.weights
  pub edges : (a b : ℕ) → IsEdge reduced a b ↔ IsKeptEdge graph a b
  pub text : bytes ≡ graph_text k order reduced
