use Rattle.name_meetings.proofs.TableLemmas.{TraceSoFar}
use Rattle.name_meetings.proofs.noting.note_trace.Given as goal

abbrev pub invariant-ones : goal.invariant-ones
invariant-ones g l = TraceSoFar l.names l.first g.G.Gap.value l.index l.trace l.fn.figures l.at l.figures
