use Rattle.std.proofs.Common.{length, reverse}
use Rattle.std.specs.List.{flat_map}
use Rattle.thread_steps.proofs.ThreadLemmas.{IsOnWalk, rest_from}
use Rattle.thread_steps.proofs.walking.walk_rows.Given as goal

abbrev pub invariant-steps : goal.invariant-steps
invariant-steps l = IsOnWalk l.steps l.firsts l.call l.walked.items l.stack.items

abbrev pub decreases-steps : goal.decreases-steps
decreases-steps l = length (flat_map (rest_from l.steps l.firsts) (reverse l.stack.items))
