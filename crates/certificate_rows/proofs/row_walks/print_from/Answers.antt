use Rattle.std.proofs.lemmas.Result.{err_from_is_err_and}
use Rattle.certificate_rows.specs.inner.Numbered.{row_of_pair}
use Rattle.certificate_rows.proofs.TextLemmas.{printed_cut, printed_more, printed_none}
use Rattle.certificate_rows.proofs.WalkLemmas.{row_next}
use Rattle.certificate_rows.proofs.row_walks.print_from.Goals as goal

pub others-init : goal.others-init
others-init g c = printed_none g.S.Sink.written g.S.Sink.faults _ c.args.sink.now c.args.buffer.now c.texts_follow.ensures.nothing

pub returns-in_err-print_pair : goal.returns-in_err-print_pair
returns-in_err-print_pair g c =
    let s = c.args.source.now in
    let row = row_of_pair s.book.now.known s.book.now.book.days s.refuters.now c.args.kind in
    let others = c.args.others.now in
    let p = err_from_is_err_and c.from_residual.result c.from_residual.ensures.1 in
    rw (p.1, p.2) (printed_cut g.S.Sink.written g.S.Sink.faults _ _ _ _ _ _ _ _ _ _ _ c.calls_follow.ensures.follow c.calls_follow.ensures.goes_on
    (row_next row c.args.one others c.others.other-index c.others-test.true) c.others.invariant c.in_err-print_pair.ensures)

pub others-preserved : goal.others-preserved
others-preserved g c =
    let s = c.args.source.now in
    let row = row_of_pair s.book.now.known s.book.now.book.days s.refuters.now c.args.kind in
    let others = c.args.others.now in
    printed_more g.S.Sink.written g.S.Sink.faults _ _ _ _ _ _ _ _ _ _ c.calls_follow.ensures.follow
    (row_next row c.args.one others c.others.other-index c.others-test.true) c.others.invariant c.in_ok-print_pair.ensures
