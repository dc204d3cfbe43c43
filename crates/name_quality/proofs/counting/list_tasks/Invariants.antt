use Rattle.std.proofs.Common.{◌≡◌, map, take}
use Rattle.name_quality.specs.inner.Adding.{task_number}
use Rattle.name_quality.proofs.counting.list_tasks.Given as goal

-- those of the names so far
abbrev pub invariant-names : goal.invariant-names
invariant-names l = l.tasks.items ≡ map task_number (take l.index l.names)
