use Rattle.std.proofs.Common.{◌≡◌, map, take}
use Rattle.thread_steps.specs.Parts.{grouping_of}
use Rattle.thread_steps.specs.inner.Gaps.{group_of_part}
use Rattle.thread_steps.proofs.gaps.groups_of_parts.Given as goal

abbrev pub invariant-loop-part : goal.invariant-loop-part
invariant-loop-part l = l.groups.items ≡ map (group_of_part (grouping_of l.forking)) (take l.part-index l.parts)
