use Rattle.std.proofs.Common.{refl, ◌∙◌, ap, arith}
use Rattle.std.specs.Prelude.{Err}
use Rattle.std.proofs.lemmas.Result.{err_from_is_err_and}
use Rattle.text_rows.specs.Printing.{print_faults}
use Rattle.trace_rows.proofs.ChunkLemmas.{chunks_next, chunks_all, chunks_cut}
use Rattle.trace_rows.proofs.PrintLemmas.{shown_none}
use Rattle.trace_rows.proofs.trace_texts.print_each.Goals as goal

pub chunks-init : goal.chunks-init
chunks-init g c = record {
  within = omega arith;
  printed = shown_none g.S.Sink.written g.S.Sink.faults c.args.book.now (g.K.TraceTexts.part c.args.texts.now) _ _ c.parts_follow.ensures.none;
  counted = refl;
}

pub chunks-preserved : goal.chunks-preserved
chunks-preserved g c = record {
  within = omega arith;
  printed = chunks_next g.S.Sink.written g.S.Sink.faults c.args.book.now (g.K.TraceTexts.part c.args.texts.now) c.args.traces.now c.chunks.at c.chunk_length.result _ _ _ _ _ _ c.part_calls_follow.ensures.follow c.chunks.invariant.printed c.in_ok-print_chunk.ensures.printed;
  counted = c.in_ok-print_chunk.ensures.counted ∙ c.chunks.invariant.counted;
}

pub returns-clause-printed : goal.returns-clause-printed
returns-clause-printed g c = chunks_all g.S.Sink.written g.S.Sink.faults c.args.book.now (g.K.TraceTexts.part c.args.texts.now) c.args.traces.now c.chunks.at _ _ _ _ c.chunks-test.false c.chunks.invariant.printed

pub returns-in_err-print_chunk-clause-printed : goal.returns-in_err-print_chunk-clause-printed
returns-in_err-print_chunk-clause-printed g c =
    let p = err_from_is_err_and c.from_residual.result c.from_residual.ensures.1 in
    rw (p.1, p.2) (chunks_cut g.S.Sink.written g.S.Sink.faults c.args.book.now (g.K.TraceTexts.part c.args.texts.now) c.args.traces.now c.chunks.at c.chunk_length.result _ _ _ _ _ _ _ c.part_calls_follow.ensures.follow c.part_calls_follow.ensures.goes_on c.chunks.invariant.printed c.in_err-print_chunk.ensures.printed)

pub returns-in_err-print_chunk-clause-counted : goal.returns-in_err-print_chunk-clause-counted
returns-in_err-print_chunk-clause-counted g c =
    let p = err_from_is_err_and c.from_residual.result c.from_residual.ensures.1 in
    rw (p.1, p.2) (c.in_err-print_chunk.ensures.counted ∙ ap (print_faults {T = Unit {0}} (Err c.in_err-print_chunk.field-0.0)) c.chunks.invariant.counted)
