use Rattle.std.proofs.Common.{◌≡◌, ◌++◌, [], drop, take}
use Rattle.thread_steps.specs.inner.Gaps.{gaps_over}
use Rattle.thread_steps.proofs.gaps.find_gaps.Given as goal

-- the gaps so far, and those of the rest
abbrev pub invariant-loop-at : goal.invariant-loop-at
invariant-loop-at l = l.gaps.items ++ gaps_over (take l.at l.groups) (drop l.at l.groups) ≡ gaps_over [] l.groups
