use Rattle.std.proofs.Common.{ℕ, List, length, sym, ◌∙◌, ap, subst}
use Rattle.std.specs.Prelude.{Err}
use Rattle.std.specs.List.{flat_map, range_with_len}
use Rattle.std.proofs.lemmas.Result.{err_from_is_err_and}
use Rattle.text_rows.specs.Printing.{PrintsText}
use Rattle.trace_rows.specs.inner.NumberedTraces.{NumberedTrace, edge_rows, vertex_row}
use Rattle.trace_rows.proofs.PrintLemmas.{done}
use Rattle.trace_rows.proofs.graph_texts.print_parts_of_graph.Goals as goal
use Rattle.weighted_dag.specs.Graphs.{Graph, order_of}

-- the rows of the vertices, and those of the edges
abbrev vertices : NumberedTrace → ℕ → List ℕ
vertices n count = flat_map (vertex_row n) (range_with_len 0 count)

abbrev edges : Graph → ℕ → List ℕ
edges g count = flat_map (edge_rows g) (range_with_len 0 count)

pub returns-in_err-print_first : goal.returns-in_err-print_first
returns-in_err-print_first g c =
    let p = err_from_is_err_and c.from_residual.result c.from_residual.ensures.1 in
    let f = subst (λ (m : ℕ). PrintsText {T = Unit {0}} g.S.Sink.written g.S.Sink.faults (Err c.in_err-print_first.field-0.0) c.args.sink.now c.print_first.new.sink c.args.buffer.now c.print_first.new.buffer (vertices c.args.numbered.now m)) (c.count-count.ensures.count ∙ ap length (sym c.requires)) c.in_err-print_first.ensures in
    rw (p.1, p.2) (c.calls_follow.ensures.goes_on _ _ _ _ c.print_first.new.buffer _ (vertices c.args.numbered.now (order_of c.args.graph.now)) (edges c.args.graph.now (order_of c.args.graph.now)) f)

pub returns : goal.returns
returns g c =
    let f = subst (λ (m : ℕ). PrintsText g.S.Sink.written g.S.Sink.faults done c.args.sink.now c.print_first.new.sink c.args.buffer.now c.print_first.new.buffer (vertices c.args.numbered.now m)) (c.count-count.ensures.count ∙ ap length (sym c.requires)) c.in_ok-print_first.ensures in
    let q = subst (λ (m : ℕ). PrintsText g.S.Sink.written g.S.Sink.faults c.print_first-2.result c.print_first.new.sink c.print_first-2.new.sink c.print_first.new.buffer c.print_first-2.new.buffer (edges c.args.graph.now m)) (c.count-count.ensures.count ∙ ap length (sym c.requires)) c.print_first-2.ensures in
    c.calls_follow.ensures.follow _ _ _ _ _ _ _ _ (vertices c.args.numbered.now (order_of c.args.graph.now)) (edges c.args.graph.now (order_of c.args.graph.now)) f q
