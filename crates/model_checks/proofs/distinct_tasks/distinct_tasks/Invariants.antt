use Rattle.std.proofs.Common.{[], take, map}
use Rattle.model_checks.specs.inner.Growing.{AddsDistinct}
use Rattle.model_checks.proofs.NameLemmas.{task_in}
use Rattle.model_checks.proofs.distinct_tasks.distinct_tasks.Given as goal

abbrev pub invariant-loop-name : goal.invariant-loop-name
invariant-loop-name l = AddsDistinct (map task_in (take l.name-index l.names)) [] l.tasks.items
