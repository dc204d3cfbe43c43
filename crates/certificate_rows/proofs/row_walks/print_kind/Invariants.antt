use Rattle.std.proofs.Common.{drop}
use Rattle.std.specs.List.{flat_map}
use Rattle.certificate_rows.specs.inner.Numbered.{kind_rows, row_of_pair}
use Rattle.certificate_rows.specs.inner.Pairs.{pairs_of}
use Rattle.certificate_rows.proofs.TextLemmas.{PrintsAllBut}
use Rattle.certificate_rows.proofs.row_walks.print_kind.Given as goal

-- all but the rows of the pairs of the numbers from here on
abbrev pub invariant-firsts : goal.invariant-firsts
invariant-firsts g l =
    let row = row_of_pair l.source.book.now.known l.source.book.now.book.days l.source.refuters.now l.kind in
    PrintsAllBut g.S.Sink.written g.S.Sink.faults (flat_map row (pairs_of l.kind l.numbers (drop l.at l.numbers))) (kind_rows l.source.book.now.known l.source.book.now.book.days l.source.refuters.now l.kind l.numbers) l.fn.sink l.sink l.fn.buffer l.buffer
