use Rattle.std.proofs.lemmas.Result.{err_from_is_err_and}
use Rattle.trace_rows.proofs.PrintLemmas.{rows_none, rows_next, rows_all, rows_cut, read_at}
use Rattle.trace_rows.proofs.vertex_rows.print_chain.Goals as goal

pub loop-vertex-init : goal.loop-vertex-init
loop-vertex-init g c = record { printed = rows_none _ _ (g.K.VertexRows.text c.args.rows.now) _ _ c.texts_follow.ensures.nothing }

pub loop-vertex-preserved : goal.loop-vertex-preserved
loop-vertex-preserved g c = record {
  printed = rows_next g.S.Sink.written g.S.Sink.faults (g.K.VertexRows.text c.args.rows.now) c.args.vertices.now c.loop-vertex.vertex-index _ _ _ _ _ _ _ c.calls_follow.ensures.follow c.loop-vertex-test.true (read_at c.args.vertices.now c.loop-vertex.vertex-index c.loop-vertex-test.true) c.loop-vertex.invariant.printed c.in_ok-print.ensures;
}

pub returns : goal.returns
returns g c = rows_all g.S.Sink.written g.S.Sink.faults (g.K.VertexRows.text c.args.rows.now) c.args.vertices.now c.loop-vertex.vertex-index _ _ _ _ c.loop-vertex-test.false c.loop-vertex.invariant.printed

pub returns-in_err-print : goal.returns-in_err-print
returns-in_err-print g c =
    let p = err_from_is_err_and c.from_residual.result c.from_residual.ensures.1 in
    rw (p.1, p.2) (rows_cut g.S.Sink.written g.S.Sink.faults (g.K.VertexRows.text c.args.rows.now) c.args.vertices.now c.loop-vertex.vertex-index _ _ _ _ _ _ _ _ c.calls_follow.ensures.follow c.calls_follow.ensures.goes_on c.loop-vertex-test.true (read_at c.args.vertices.now c.loop-vertex.vertex-index c.loop-vertex-test.true) c.loop-vertex.invariant.printed c.in_err-print.ensures)
