use Rattle.std.proofs.Common.{◌≡◌, ◌<◌, ℕ, List, length, get_or, set, Some, slice_get, arith, refl, sym, ap, ◌∙◌, subst}
use Rattle.std.proofs.lemmas.List.{get_or_default}
use Rattle.std.proofs.lemmas.List.Elements.{Contains-get_or}
use Rattle.std.proofs.lemmas.Option.{get_or_from_slice_get, slice_get-get_or}
use Rattle.path_gains.specs.declared.gain.Gain.{Gain}
use Rattle.trace_types.specs.declared.named_segment.NamedSegment.{NamedSegment}
use Rattle.weighted_dag.specs.Graphs.{Graph, order_of, weight_of}
use Rattle.gain_table.specs.inner.Growing.{HasName, IsShort, gain_at, nothing, raised_row, row_at}
use Rattle.gain_table.proofs.GrowingLemmas.{grown_more, grown_none, has_room}
use Rattle.gain_table.proofs.adding.add_gains.Goals as goal
use Rattle.gain_table.proofs.adding.add_gains.Goals.{After-lasts_a_word}

-- the trace's graph
abbrev graph : After-lasts_a_word → Graph
graph c = c.requires.measured.1.graph

-- the vertex is one of it
within : (c : After-lasts_a_word) → c.vertices.vertex < length c.args.figures.now.order
within c = subst (λ (n : ℕ). c.vertices.vertex < n) (ap length c.items-order.ensures) c.vertices-test.true

-- the index of its segment
abbrev index : After-lasts_a_word → ℕ
index c = get_or c.args.figures.now.order c.vertices.vertex 0

at : (c : After-lasts_a_word) → slice_get c.args.figures.now.order c.vertices.vertex ≡ Some (index c)
at c = slice_get-get_or c.args.figures.now.order c.vertices.vertex 0 (within c)

placed : (c : After-lasts_a_word) → index c < length c.args.trace.now.segments
placed c = (c.requires.measured.1.dependencies.has.vertices.all (index c)).0 (Contains-get_or c.args.figures.now.order c.vertices.vertex 0 (within c))

got : (c : After-lasts_a_word) → slice_get c.args.trace.now.segments (index c) ≡ Some c.index-segments-order.result
got c = slice_get-get_or c.args.trace.now.segments (index c) c.index-segments-order.result (placed c)
    ∙ ap Some (sym (c.index-segments-order.is
    ∙ (ap (λ (ss : List NamedSegment). get_or ss (get_or c.items-order.result.now c.vertices.vertex 0) c.index-segments-order.result) c.items-segments.ensures
    ∙ ap (λ (vs : List ℕ). get_or c.args.trace.now.segments (get_or vs c.vertices.vertex 0) c.index-segments-order.result) c.items-order.ensures)))

named : (c : After-lasts_a_word) → HasName c.args.trace.now c.args.figures.now.order c.index-segments-order.result.name c.vertices.vertex
named c = (c.index-segments-order.result, (index c, at c, got c), refl)

below : (c : After-lasts_a_word) → c.index-segments-order.result.name < length c.args.rows.now
below c = subst (λ (s : NamedSegment). s.name < length c.args.rows.now) (get_or_from_slice_get c.args.trace.now.segments (index c) c.index-segments-order.result c.index-segments-order.result (got c))
    (c.requires.names (index c) c.index-segments-order.result (placed c))

-- it gains less than 2^64
short : (c : After-lasts_a_word) → IsShort (gain_at c.args.figures.now c.vertices.vertex)
short c =
    let is = c.requires.measured.1 in
    let inside : c.vertices.vertex < order_of (graph c) = subst (λ (n : ℕ). c.vertices.vertex < n) (sym is.dependencies.has.count) (within c) in
    let bounds = c.gains_are_bounded.ensures (graph c) c.vertices.vertex (gain_at c.args.figures.now c.vertices.vertex) is.form inside (is.gains c.vertices.vertex nothing inside) in
    let word = c.lasts_a_word.ensures (weight_of (graph c) c.vertices.vertex) (is.dependencies.has.weights c.vertices.vertex (index c) c.index-segments-order.result (at c) (got c)) in
    let half = bounds.0 in
    let none = bounds.1 in
    (omega arith, omega arith)

pub vertices-init : goal.vertices-init
vertices-init c = grown_none c.args.trace.now c.args.figures.now c.requires.measured.1.graph c.requires.measured.1.dependencies.has c.args.rows.now

pub bounds-segments-order : goal.bounds-segments-order
bounds-segments-order c =
    let order = c.args.figures.now.order in
    let inside : c.vertices.vertex < length order = subst (λ (n : ℕ). c.vertices.vertex < n) (ap length c.items-order.ensures) c.vertices-test.true in
    subst (λ (vs : List ℕ). get_or vs c.vertices.vertex 0 < length c.items-segments.result.now) (sym c.items-order.ensures)
    (subst (λ (ss : List NamedSegment). get_or order c.vertices.vertex 0 < length ss) (sym c.items-segments.ensures)
    ((c.requires.measured.1.dependencies.has.vertices.all (get_or order c.vertices.vertex 0)).0 (Contains-get_or order c.vertices.vertex 0 inside)))

pub bounds-rows-segment : goal.bounds-rows-segment
bounds-rows-segment c = subst (λ (n : ℕ). c.index-segments-order.result.name < n) (sym c.vertices.auto.rows) (below (goal.at.bounds-rows-segment c).After-lasts_a_word)

pub raise_row-requires-clause-room : goal.raise_row-requires-clause-room
raise_row-requires-clause-room c =
    let a = (goal.at.raise_row-requires-clause-room c).After-lasts_a_word in
    has_room c.args.trace.now c.args.figures.now (graph a) c.requires.measured.1.dependencies.has c.vertices.vertex c.index-segments-order.result.name c.args.rows.now c.vertices.rows c.vertices.invariant (named a) (below a) (c.requires.room c.index-segments-order.result.name (below a))

-- the lent gain is that of the vertex
lent : (c : After-lasts_a_word) (d : Gain) → d ≡ get_or c.args.figures.now.gains.items c.vertices.vertex d → d ≡ gain_at c.args.figures.now c.vertices.vertex
lent c d e =
    let is = c.requires.measured.1 in
    let inside : c.vertices.vertex < length c.args.figures.now.gains.items = subst (λ (n : ℕ). c.vertices.vertex < n) (sym is.dependencies.has.count ∙ sym is.gain_count) (within c) in
    e ∙ get_or_default c.args.figures.now.gains.items c.vertices.vertex d nothing inside

pub raise_row-requires-clause-short : goal.raise_row-requires-clause-short
raise_row-requires-clause-short c =
    let a = (goal.at.raise_row-requires-clause-short c).After-lasts_a_word in
    subst IsShort (sym (lent a c.index.result.now c.index.ensures)) (short a)

pub vertices-preserved : goal.vertices-preserved
vertices-preserved c =
    let a = (goal.at.vertices-preserved c).After-lasts_a_word in
    let name = c.index-segments-order.result.name in
    let raised : c.raise_row.new.row ≡ raised_row (row_at c.vertices.rows name) (gain_at c.args.figures.now c.vertices.vertex) = c.raise_row.ensures ∙ ap (raised_row (row_at c.vertices.rows name)) (lent a c.index.result.now c.index.ensures) in
    grown_more c.args.trace.now c.args.figures.now (graph a) c.requires.measured.1.dependencies.has c.vertices.vertex name c.args.rows.now c.vertices.rows (set c.vertices.rows name c.raise_row.new.row) c.vertices.invariant (named a) (below a) (short a) (ap (set c.vertices.rows name) raised)
