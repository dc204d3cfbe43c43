use Rattle.std.proofs.lemmas.Result.{err_from_is_err_and}
use Rattle.page_rows.proofs.ReadingLemmas.{fails_at}
use Rattle.page_rows.proofs.reading.read_rows.Goals as goal

pub returns-in_err-before-clause-bad : goal.returns-in_err-before-clause-bad
returns-in_err-before-clause-bad c =
    let p = err_from_is_err_and c.from_residual.result c.from_residual.ensures.1 in
    rw (p.1, p.2) (fails_at c.args.lines.now c.lines.line-index _ _ c.lines.rows.items _ _ c.lines-test.true c.lines.invariant.told c.in_err-before.ensures.bad)
