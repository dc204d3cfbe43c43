use Rattle.std.proofs.Common.{length}
use Rattle.event_lines.proofs.FlatReadingLemmas.{Reaches}
use Rattle.event_lines.proofs.flat_lines.read_members.Given as goal

abbrev pub invariant-members : goal.invariant-members
invariant-members l = Reaches l.initial.reader l.found l.reader

abbrev pub decreases-members : goal.decreases-members
decreases-members l = length l.reader
