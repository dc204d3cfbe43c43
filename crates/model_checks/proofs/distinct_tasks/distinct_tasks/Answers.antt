use Rattle.std.proofs.Common.{ℕ, List, [], ◌∷◌, ap, subst, arith}
use Rattle.model_checks.specs.inner.Growing.{AddsDistinct}
use Rattle.model_checks.proofs.GrowingLemmas.{AddsDistinct-more, AddsDistinct-all}
use Rattle.model_checks.proofs.NameLemmas.{task_in}
use Rattle.model_checks.proofs.distinct_tasks.distinct_tasks.Goals as goal

pub loop-name-preserved : goal.loop-name-preserved
loop-name-preserved c =
    AddsDistinct-more task_in c.args.names.now c.loop-name.name-index c.name-item.result (omega arith) c.name-item.is [] c.loop-name.tasks.items c.add_task.new.tasks.items c.loop-name.invariant
    (subst (λ (task : List ℕ). AddsDistinct (task ∷ []) c.loop-name.tasks.items c.add_task.new.tasks.items) (ap task_in c.name.view_is) c.in_ok-add_task.ensures)

pub returns : goal.returns
returns c = AddsDistinct-all task_in c.args.names.now c.loop-name.name-index (omega arith) [] c.loop-name.tasks.items c.loop-name.invariant
