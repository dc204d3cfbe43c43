-- The rows of a trace whose names are numbers of a catalogue.
use Rattle.std.specs.Prelude.{◌≡◌, ℕ, ◌^◌, ◌<◌, ◌++◌, List, [], ◌∷◌, length, codes, decimal}
use Rattle.std.specs.Prelude.{slice_get, slice_index, unwrap_or}
use Rattle.std.specs.List.{All, flat_map, range_with_len}
use Rattle.std.specs.Option.{option_map_or}
use Rattle.refute_tests.specs.Clearing.{HaveNamesBelow}
use Rattle.text_rows.specs.Rows.{row_of}
use Rattle.session_rules.specs.TraceTexts.{edges_of}
use Rattle.trace_types.specs.Segments.{SegmentName}
use Rattle.trace_types.specs.declared.named_segment.NamedSegment.{NamedSegment}
use Rattle.trace_types.specs.declared.named_trace.NamedTrace.{NamedTrace}
use Rattle.weighted_dag.specs.Graphs.{Graph, order_of, successors_of}

-- a trace with the order and the weights of its graph's vertices, and the names of the catalogue;
-- entry v of the order is the index of vertex v's segment
pub record NumberedTrace : Type 0 where
  pub names : List SegmentName
  pub trace : NamedTrace
  pub order : List ℕ
  pub weights : List ℕ

-- each vertex has a weight and a segment, and each segment a name; a vertex has a number of 32 bits
pub record IsNumbered (n : NumberedTrace) : Type 0 where
  pub few : length n.weights < 2 ^ 32
  pub weighted : length n.weights ≡ length n.order
  pub placed : All (λ i. i < length n.trace.segments) n.order
  pub named : HaveNamesBelow (length n.names) n.trace

-- the name of a segment, by its number
abbrev pub name_of_number : List SegmentName → NamedSegment → SegmentName
name_of_number names s = unwrap_or (slice_get names s.name) ([], [], [])

-- the name of a vertex's segment
abbrev pub vertex_name : NumberedTrace → ℕ → SegmentName
vertex_name n v =
    option_map_or (name_of_number n.names) (slice_get n.trace.segments (slice_index n.order v))
    ([], [], [])

-- a row of fields, a name and more fields
abbrev pub name_row : List (List ℕ) → SegmentName → List (List ℕ) → List ℕ
name_row before name after = row_of (before ++ (name.0 ∷ name.1 ∷ name.2 ∷ after))

-- `step`, the name of a vertex and its weight
abbrev pub vertex_step_row : NumberedTrace → ℕ → List ℕ
vertex_step_row n v =
    name_row (codes "step" ∷ []) (vertex_name n v) (decimal (slice_index n.weights v) ∷ [])

-- `segment`, the name of a vertex, its weight and its slack
abbrev pub vertex_slack_row : NumberedTrace → List ℕ → ℕ → List ℕ
vertex_slack_row n slacks v =
    name_row (codes "segment" ∷ []) (vertex_name n v)
    (decimal (slice_index n.weights v) ∷ decimal (slice_index slacks v) ∷ [])

-- `vertex`, the number of a vertex, its name and its weight
abbrev pub vertex_row : NumberedTrace → ℕ → List ℕ
vertex_row n v =
    name_row (codes "vertex" ∷ decimal v ∷ []) (vertex_name n v)
    (decimal (slice_index n.weights v) ∷ [])

-- `edge` and its two vertices
abbrev pub edge_row : ℕ → ℕ → List ℕ
edge_row v w = row_of (codes "edge" ∷ decimal v ∷ decimal w ∷ [])

-- the rows of the edges that begin with a vertex
abbrev pub edge_rows : Graph → ℕ → List ℕ
edge_rows g v = flat_map (edge_row v) (successors_of g v)

-- a row of a trace: a word, its request, its day, its latency and more fields
abbrev pub row_of_trace : List ℕ → NamedTrace → List (List ℕ) → List ℕ
row_of_trace word t more = row_of (word ∷ t.request ∷ decimal t.day ∷ decimal t.latency ∷ more)

-- the rows of a path of this length
abbrev pub path_rows : NumberedTrace → ℕ → List ℕ → List ℕ
path_rows n long chain =
    row_of_trace (codes "path") n.trace (decimal long ∷ decimal (length chain) ∷ [])
    ++ flat_map (vertex_step_row n) chain

-- the rows of slacks under this longest length
abbrev pub slack_rows : NumberedTrace → ℕ → List ℕ → List ℕ
slack_rows n longest slacks =
    row_of_trace (codes "trace") n.trace (decimal longest ∷ [])
    ++ flat_map (vertex_slack_row n slacks) (range_with_len 0 (length n.weights))

-- the rows of a graph of the trace
abbrev pub graph_rows : NumberedTrace → Graph → List ℕ
graph_rows n g =
    row_of_trace (codes "trace") n.trace
    (decimal (order_of g) ∷ decimal (length (edges_of g)) ∷ [])
    ++ (flat_map (vertex_row n) (range_with_len 0 (order_of g))
    ++ flat_map (edge_rows g) (range_with_len 0 (order_of g)))
