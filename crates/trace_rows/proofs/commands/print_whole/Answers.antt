use Rattle.std.proofs.lemmas.Result.{err_from_is_err_and}
use Rattle.trace_rows.proofs.PrintLemmas.{whole_follow, whole_cut}
use Rattle.trace_rows.proofs.commands.print_whole.Goals as goal

pub returns-clause-printed : goal.returns-clause-printed
returns-clause-printed g c = whole_follow g.S.Sink.written g.S.Sink.faults c.args.book.now (g.K.TraceTexts.part c.args.texts.now) c.args.word.now c.print_days.result _ _ _ _ _ _ c.part_calls_follow.ensures.follow c.part_calls_follow.ensures.one c.in_ok-print_header.ensures c.print_days.ensures.printed

pub returns-in_err-print_header-clause-printed : goal.returns-in_err-print_header-clause-printed
returns-in_err-print_header-clause-printed g c =
    let p = err_from_is_err_and c.from_residual.result c.from_residual.ensures.1 in
    rw (p.1, p.2) (whole_cut g.S.Sink.written g.S.Sink.faults c.args.book.now (g.K.TraceTexts.part c.args.texts.now) c.args.word.now _ _ _ _ c.print_header.new.buffer _ c.part_calls_follow.ensures.goes_on c.part_calls_follow.ensures.one c.in_err-print_header.ensures)
