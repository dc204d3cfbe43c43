use Rattle.std.proofs.Common.{◌-◌, ◌≤◌, length}
use Rattle.event_lines.proofs.PlainObjectLemmas.{ReachesAt}
use Rattle.event_lines.proofs.plain_lines.read_members.Given as goal

abbrev pub invariant-members : goal.invariant-members
invariant-members l = ReachesAt l.text l.start l.found l.at × (l.at ≤ length l.text)

abbrev pub decreases-members : goal.decreases-members
decreases-members l = length l.text - l.at
