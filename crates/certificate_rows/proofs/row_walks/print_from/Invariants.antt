use Rattle.std.proofs.Common.{drop}
use Rattle.std.specs.List.{flat_map}
use Rattle.certificate_rows.specs.inner.Numbered.{row_of_pair}
use Rattle.certificate_rows.specs.inner.Pairs.{pairs_with}
use Rattle.certificate_rows.proofs.TextLemmas.{PrintsAllBut}
use Rattle.certificate_rows.proofs.row_walks.print_from.Given as goal

-- all but the rows of the others from here on
abbrev pub invariant-others : goal.invariant-others
invariant-others g l =
    let row = row_of_pair l.source.book.now.known l.source.book.now.book.days l.source.refuters.now l.kind in
    PrintsAllBut g.S.Sink.written g.S.Sink.faults (flat_map row (pairs_with l.one (drop l.other-index l.others))) (flat_map row (pairs_with l.one l.others)) l.fn.sink l.sink l.fn.buffer l.buffer
