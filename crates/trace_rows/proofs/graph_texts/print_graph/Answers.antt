use Rattle.std.proofs.Common.{ℕ, List, [], ◌∷◌, ◌++◌, length, codes, decimal}
use Rattle.std.specs.List.{flat_map, range_with_len}
use Rattle.std.proofs.lemmas.Result.{err_from_is_err_and}
use Rattle.session_rules.specs.TraceTexts.{edges_of}
use Rattle.trace_rows.specs.inner.NumberedTraces.{NumberedTrace, edge_rows, row_of_trace, vertex_row}
use Rattle.trace_rows.proofs.graph_texts.print_graph.Goals as goal
use Rattle.weighted_dag.specs.Graphs.{Graph, order_of}

-- the row of the trace, and the rows of its vertices and edges
abbrev head : NumberedTrace → Graph → List ℕ
head n g = row_of_trace (codes "trace") n.trace (decimal (order_of g) ∷ decimal (length (edges_of g)) ∷ [])

abbrev rest : NumberedTrace → Graph → List ℕ
rest n g = flat_map (vertex_row n) (range_with_len 0 (order_of g)) ++ flat_map (edge_rows g) (range_with_len 0 (order_of g))

pub returns-in_err-print_counts_row : goal.returns-in_err-print_counts_row
returns-in_err-print_counts_row g c =
    let p = err_from_is_err_and c.from_residual.result c.from_residual.ensures.1 in
    rw (p.1, p.2) (c.calls_follow.ensures.goes_on _ _ _ _ c.print_counts_row.new.buffer _ (head c.args.numbered.now c.args.graph.now) (rest c.args.numbered.now c.args.graph.now) c.in_err-print_counts_row.ensures)

pub returns : goal.returns
returns g c = c.calls_follow.ensures.follow _ _ _ _ _ _ _ _ (head c.args.numbered.now c.args.graph.now) (rest c.args.numbered.now c.args.graph.now) c.in_ok-print_counts_row.ensures c.print_parts_of_graph.ensures
