use Rattle.std.proofs.Common.{rules}
use Rattle.std.proofs.lemmas.List.Sorted.{IsNonDecreasingBy-from_sort_by_key}
use Rattle.pipeline_tests.proofs.GroupLemmas.{stand_together, sorted_runs}
use Rattle.pipeline_tests.specs.declared.groups.TaskStays.{TaskStays}
use Rattle.pipeline_tests.proofs.groups.by_task.Goals as goal

pub runs_of-requires : goal.runs_of-requires
runs_of-requires c = stand_together c.args.trace.now c.args.stays.now c.requires

pub returns : goal.returns
returns c = sorted_runs c.args.trace.now c.args.stays.now c.requires c.in_ok-groups.groups.items c.sort_unstable_by_key.new.self.items c.in_ok-groups.ensures c.sort_unstable_by_key.ensures.permutation
    (IsNonDecreasingBy-from_sort_by_key (λ (g : TaskStays). g.task) _ c.sort_unstable_by_key.ensures.sorted (λ a r q k. search rules))
