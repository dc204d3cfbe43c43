use Rattle.std.proofs.Common.{ℕ, ◌<◌, ◌+◌, All, sym, subst}
use Rattle.std.proofs.lemmas.Result.{err_from_is_err_and}
use Rattle.certificate_rows.specs.inner.Numbered.{row_of_pair}
use Rattle.certificate_rows.specs.inner.Sources.{count_of}
use Rattle.certificate_rows.proofs.TextLemmas.{printed_cut, printed_more, printed_none}
use Rattle.certificate_rows.proofs.WalkLemmas.{rows_next, seconds_all}
use Rattle.certificate_rows.proofs.row_walks.print_kind.Goals as goal

pub firsts-init : goal.firsts-init
firsts-init g c = printed_none g.S.Sink.written g.S.Sink.faults _ c.args.sink.now c.args.buffer.now c.texts_follow.ensures.nothing

pub print_from-requires-clause-others : goal.print_from-requires-clause-others
print_from-requires-clause-others g c =
    let IsNumber = λ (n : ℕ). n < count_of c.args.source.now.book.now.known c.args.kind in
    subst (All IsNumber) (sym c.seconds.ensures) (seconds_all IsNumber c.args.kind c.args.numbers.now (c.firsts.at + 1) c.requires.numbers)

pub returns-in_err-print_from : goal.returns-in_err-print_from
returns-in_err-print_from g c =
    let s = c.args.source.now in
    let row = row_of_pair s.book.now.known s.book.now.book.days s.refuters.now c.args.kind in
    let p = err_from_is_err_and c.from_residual.result c.from_residual.ensures.1 in
    let row_printed = rw c.seconds.ensures at c.in_err-print_from.ensures in
    rw (p.1, p.2) (printed_cut g.S.Sink.written g.S.Sink.faults _ _ _ _ _ _ _ _ _ _ _ c.calls_follow.ensures.follow c.calls_follow.ensures.goes_on
    (rows_next row c.args.kind c.args.numbers.now c.firsts.at c.firsts-test.true) c.firsts.invariant row_printed)

pub firsts-preserved : goal.firsts-preserved
firsts-preserved g c =
    let s = c.args.source.now in
    let row = row_of_pair s.book.now.known s.book.now.book.days s.refuters.now c.args.kind in
    let row_printed = rw c.seconds.ensures at c.in_ok-print_from.ensures in
    printed_more g.S.Sink.written g.S.Sink.faults _ _ _ _ _ _ _ _ _ _ c.calls_follow.ensures.follow
    (rows_next row c.args.kind c.args.numbers.now c.firsts.at c.firsts-test.true) c.firsts.invariant row_printed
