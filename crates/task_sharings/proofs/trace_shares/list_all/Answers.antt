use Rattle.std.proofs.Common.{◌+◌, sym, subst}
use Rattle.task_sharings.specs.inner.Traces.{AreListsOf}
use Rattle.task_sharings.proofs.ListLemmas.{lists_more}
use Rattle.task_sharings.proofs.trace_shares.list_all.Goals as goal

pub tasks-preserved : goal.tasks-preserved
tasks-preserved c = subst (AreListsOf c.args.trace.now (c.tasks.task + 1)) (sym c.in_ok-push.ensures.items)
    (lists_more c.args.trace.now c.tasks.task c.tasks.lists.items c.in_ok-list_elements.field-0 c.tasks.invariant c.in_ok-list_elements.ensures)
