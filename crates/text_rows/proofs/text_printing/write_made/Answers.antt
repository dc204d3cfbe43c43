use Rattle.std.proofs.Common.{refl}
use Rattle.std.proofs.lemmas.Result.{err_from_is_err_and}
use Rattle.text_rows.proofs.PrintLemmas.{prefix_after, prefix_held, prints_flushed, prints_part}
use Rattle.text_rows.proofs.text_printing.write_made.Goals as goal

pub returns-in_err-flush : goal.returns-in_err-flush
returns-in_err-flush g c =
    let p = err_from_is_err_and c.from_residual.result c.from_residual.ensures.1 in
    rw (p.1, p.2) (prints_part g.S.Sink.written g.S.Sink.faults _ c.args.sink.now c.args.sink.now _ _ _ _ refl c.in_err-flush.ensures.counted
    (prefix_held _ _ c.args.buffer.now c.args.text.now c.in_err-flush.ensures.prefix))

pub returns-in_err-write_text : goal.returns-in_err-write_text
returns-in_err-write_text g c =
    let p = err_from_is_err_and c.from_residual-in_err-write_text.result c.from_residual-in_err-write_text.ensures.1 in
    rw (p.1, p.2) (prints_part g.S.Sink.written g.S.Sink.faults _ c.args.sink.now c.flush.new.sink _ _ _ _ c.in_ok-flush.ensures.counted c.in_err-write_text.ensures.counted
    (prefix_after _ _ _ c.args.buffer.now _ _ c.args.text.now (prints_flushed _ _ c.args.buffer.now c.in_ok-flush.ensures.all) c.in_err-write_text.ensures.prefix))
