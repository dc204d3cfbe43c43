use Rattle.trace_rows.proofs.MadeLemmas.{made_prints}
use Rattle.trace_rows.proofs.trace_texts.print_chunk.Goals as goal

pub returns-clause-printed : goal.returns-clause-printed
returns-clause-printed g c =
    made_prints c.args.book.now (g.K.TraceTexts.part c.args.texts.now) g.S.Sink.written g.S.Sink.faults c.print_texts.result c.args.sink.now c.print_texts.new.sink c.args.traces.now c.in_ok-pieces.pieces.items c.deref.result.now c.in_ok-made.made.items c.deref-2.result.now c.args.buffer.now c.print_texts.new.buffer
    c.deref.ensures.value c.in_ok-pieces.ensures c.deref-2.ensures.value c.in_ok-made.ensures c.print_texts.ensures
