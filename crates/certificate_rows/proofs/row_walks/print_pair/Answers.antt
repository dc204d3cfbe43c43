use Rattle.std.proofs.Common.{sym, ◌∙◌}
use Rattle.certificate_rows.proofs.RefuterLemmas.{refuter_stands}
use Rattle.certificate_rows.proofs.row_walks.print_pair.Goals as goal

pub trace-trace-requires : goal.trace-trace-requires
trace-trace-requires g c = refuter_stands c.args.source.now.book.now.known c.args.source.now.book.now.book c.args.source.now.refuters.now c.requires.source c.args.kind c.args.one c.args.other c.requires.one c.requires.other c.in-Some.finding (sym c.refuter.ensures ∙ c.in-Some.is)

pub print_refuted-requires-clause-one : goal.print_refuted-requires-clause-one
print_refuted-requires-clause-one g c = rw c.catalogue-catalogue.ensures.catalogue c.requires.one

pub print_refuted-requires-clause-other : goal.print_refuted-requires-clause-other
print_refuted-requires-clause-other g c = rw c.catalogue-catalogue.ensures.catalogue c.requires.other
