use Rattle.task_sharings.specs.inner.Traces.{AreListsOf}
use Rattle.task_sharings.proofs.trace_shares.list_all.Given as goal

abbrev pub invariant-tasks : goal.invariant-tasks
invariant-tasks l = AreListsOf l.trace l.task l.lists.items
