use Rattle.std.proofs.Common.{◌≡◌, ◌++◌, drop}
use Rattle.thread_steps.specs.Parts.{grouping_of}
use Rattle.thread_steps.proofs.RowLemmas.{steps_with}
use Rattle.thread_steps.proofs.rows.push_row.Given as goal

-- the steps over the parts so far, and those over the rest
abbrev pub invariant-parts : goal.invariant-parts
invariant-parts l = l.steps.items ++ steps_with (grouping_of l.forking) l.group_numbers (drop l.at l.parts.items) (drop l.at l.gaps.items) ≡ l.initial.steps.items ++ steps_with (grouping_of l.forking) l.group_numbers l.parts.items l.gaps.items
