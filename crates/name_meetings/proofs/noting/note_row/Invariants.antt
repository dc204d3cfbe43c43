use Rattle.name_meetings.proofs.TableLemmas.{RowSoFar}
use Rattle.name_meetings.proofs.noting.note_row.Given as goal

abbrev pub invariant-others : goal.invariant-others
invariant-others g l = RowSoFar l.names l.first g.G.Gap.value l.index l.trace l.one l.fn.figures l.at l.figures
