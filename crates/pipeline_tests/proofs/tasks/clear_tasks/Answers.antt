use Rattle.std.proofs.Common.{List, All, sym, subst}
use Rattle.hypothesis_index.specs.Refuting.{RefutesTasks}
use Rattle.pipeline_tests.proofs.TaskLemmas.{all_among}
use Rattle.pipeline_tests.specs.declared.groups.TaskStays.{TaskStays}
use Rattle.pipeline_tests.specs.inner.Groups.{IsGroup, TasksRise}
use Rattle.pipeline_tests.specs.inner.Pairs.{IsAmong}
use Rattle.refute_tests.specs.Clearing.{AddsExactly}
use Rattle.pipeline_tests.proofs.tasks.clear_tasks.Goals as goal

pub clear_groups-requires-clause-groups : goal.clear_groups-requires-clause-groups
clear_groups-requires-clause-groups c = subst (λ (l : List TaskStays). All (IsGroup c.args.trace.now) l) (sym c.as_slice-2.ensures.value) c.in_ok-groups.ensures.each

pub clear_groups-requires-clause-rise : goal.clear_groups-requires-clause-rise
clear_groups-requires-clause-rise c = subst TasksRise (sym c.as_slice-2.ensures.value) c.in_ok-groups.ensures.rise

pub returns-clause-cleared : goal.returns-clause-cleared
returns-clause-cleared c = all_among c.args.trace.now c.in_ok-groups.groups.items c.in_ok-groups.ensures c.args.maker.now c.clear_groups.new.maker
    (subst (λ (l : List TaskStays). AddsExactly c.args.maker.now (λ r. IsAmong l r × RefutesTasks r c.args.trace.now) c.clear_groups.new.maker) c.as_slice-2.ensures.value c.in_ok-clear_groups.ensures.cleared)
