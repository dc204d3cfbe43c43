use Rattle.std.proofs.Common.{◌^◌, ◌<◌, ◌≤◌, arith}
use Rattle.digest_facts.proofs.MergeLemmas.{name_apart, text_apart}
use Rattle.digest_merging.specs.inner.AllTables.{all_counts}
use Rattle.digest_merging.proofs.AllLemmas.{counted_none, counted_some, names_counted, same_list, small_no_limit, tasks_counted, too_many_names, too_many_tasks, too_many_traces, traces_counted}
use Rattle.digest_merging.proofs.limits.check_limits.Goals as goal

pub returns-then-names-gt-MOST_NAMES-clause-fault : goal.returns-then-names-gt-MOST_NAMES-clause-fault
returns-then-names-gt-MOST_NAMES-clause-fault c given g =
    let names = names_counted c.args.tables.now given g c.count_different-names.result (λ xs up same. c.count_different-names.ensures name_apart xs up (same_list xs _ _ c.in_ok-names_of_all.ensures same)) in
    too_many_names given c.count_different-names.result names c.if-names-gt-MOST_NAMES.true

pub returns-then-tasks-gt-MOST_TASKS-clause-fault : goal.returns-then-tasks-gt-MOST_TASKS-clause-fault
returns-then-tasks-gt-MOST_TASKS-clause-fault c given g =
    let names = names_counted c.args.tables.now given g c.count_different-names.result (λ xs up same. c.count_different-names.ensures name_apart xs up (same_list xs _ _ c.in_ok-names_of_all.ensures same)) in
    let tasks = tasks_counted c.args.tables.now given g c.count_different-tasks.result (λ xs up same. c.count_different-tasks.ensures text_apart xs up (same_list xs _ _ c.in_ok-tasks_of_all.ensures same)) in
    too_many_tasks given c.count_different-names.result c.count_different-tasks.result names c.if-names-gt-MOST_NAMES.false tasks c.if-tasks-gt-MOST_TASKS.true

pub returns-then-is_none-clause-fault : goal.returns-then-is_none-clause-fault
returns-then-is_none-clause-fault c given g =
    let names = names_counted c.args.tables.now given g c.count_different-names.result (λ xs up same. c.count_different-names.ensures name_apart xs up (same_list xs _ _ c.in_ok-names_of_all.ensures same)) in
    let tasks = tasks_counted c.args.tables.now given g c.count_different-tasks.result (λ xs up same. c.count_different-tasks.ensures text_apart xs up (same_list xs _ _ c.in_ok-tasks_of_all.ensures same)) in
    let over : 2 ^ 64 ≤ all_counts c.args.tables.now = counted_none c.count_traces.result (2 ^ 64 ≤ all_counts c.args.tables.now) c.if-is_none.ensures c.count_traces.ensures.over in
    too_many_traces given c.count_different-names.result c.count_different-tasks.result names c.if-names-gt-MOST_NAMES.false tasks c.if-tasks-gt-MOST_TASKS.false (omega (arith, over, traces_counted c.args.tables.now given g))

pub returns-clause-within : goal.returns-clause-within
returns-clause-within c given g =
    let names = names_counted c.args.tables.now given g c.count_different-names.result (λ xs up same. c.count_different-names.ensures name_apart xs up (same_list xs _ _ c.in_ok-names_of_all.ensures same)) in
    let tasks = tasks_counted c.args.tables.now given g c.count_different-tasks.result (λ xs up same. c.count_different-tasks.ensures text_apart xs up (same_list xs _ _ c.in_ok-tasks_of_all.ensures same)) in
    let count = traces_counted c.args.tables.now given g in
    small_no_limit given (record { names = omega (arith, names, c.if-names-gt-MOST_NAMES.false); tasks = omega (arith, tasks, c.if-tasks-gt-MOST_TASKS.false); traces = omega (arith, count, counted_some c.count_traces.result (all_counts c.args.tables.now < 2 ^ 64) c.if-is_none.ensures c.count_traces.ensures.few) })
