use Rattle.std.proofs.Common.{◌≡◌, ℕ, ◌+◌, ◌^◌, ◌<◌, List, length, Some, arith, ap, ◌∙◌}
use Rattle.trace_types.specs.Segments.{SegmentName}
use Rattle.digest_facts.specs.Tables.{Table}
use Rattle.digest_merging.specs.declared.digest_limit.DigestLimit.TheVariants.{Names, Tasks}
use Rattle.digest_merging.proofs.MergeLemmas.{days_from, merged_table, name_rows_from, names_from, no_limit, task_rows_from, tasks_from, too_many_names, too_many_tasks, too_many_traces}
use Rattle.digest_merging.proofs.merging.merge_digests.Goals as goal

-- the parts of a table that is seen as another
names_of : {u v : Table SegmentName (List ℕ)} → u ≡ v → u.names ≡ v.names
names_of e = ap (λ (w : Table SegmentName (List ℕ)). w.names) e

tasks_of : {u v : Table SegmentName (List ℕ)} → u ≡ v → u.tasks ≡ v.tasks
tasks_of e = ap (λ (w : Table SegmentName (List ℕ)). w.tasks) e

days_of : {u v : Table SegmentName (List ℕ)} → u ≡ v → u.days ≡ v.days
days_of e = ap (λ (w : Table SegmentName (List ℕ)). w.days) e

traces_of : {u v : Table SegmentName (List ℕ)} → u ≡ v → u.traces ≡ v.traces
traces_of e = ap (λ (w : Table SegmentName (List ℕ)). w.traces) e

pub returns-then-len-gt-MOST_NAMES-clause-fault : goal.returns-then-len-gt-MOST_NAMES-clause-fault
returns-then-len-gt-MOST_NAMES-clause-fault c s t hs ht =
    let u = c.args.first.now in
    let v = c.args.second.now in
    let names = names_from u v s t hs ht _ _ (c.deref.ensures.value ∙ names_of c.first.view_is) (c.deref-2.ensures.value ∙ names_of c.second.view_is) c.in_ok-names.names.items c.in_ok-names.ensures in
    too_many_names u v s t hs ht c.in_ok-names.names.items names (omega (arith, c.len.ensures, c.if-len-gt-MOST_NAMES.true))
    ∙ ap (λ (n : ℕ). Some (Names n)) (let e : length c.in_ok-names.names.items ≡ c.len-count.result = omega (arith, c.len-count.ensures) in e)

pub returns-then-len-gt-MOST_TASKS-clause-fault : goal.returns-then-len-gt-MOST_TASKS-clause-fault
returns-then-len-gt-MOST_TASKS-clause-fault c s t hs ht =
    let u = c.args.first.now in
    let v = c.args.second.now in
    let names = names_from u v s t hs ht _ _ (c.deref.ensures.value ∙ names_of c.first.view_is) (c.deref-2.ensures.value ∙ names_of c.second.view_is) c.in_ok-names.names.items c.in_ok-names.ensures in
    let tasks = tasks_from u v s t hs ht _ _ (c.deref-3.ensures.value ∙ tasks_of c.first.view_is) (c.deref-4.ensures.value ∙ tasks_of c.second.view_is) c.in_ok-tasks.tasks.items c.in_ok-tasks.ensures in
    too_many_tasks u v s t hs ht c.in_ok-names.names.items c.in_ok-tasks.tasks.items names tasks (omega (arith, c.len.ensures, c.if-len-gt-MOST_NAMES.false)) (omega (arith, c.len-2.ensures, c.if-len-gt-MOST_TASKS.true))
    ∙ ap (λ (n : ℕ). Some (Tasks n)) (let e : length c.in_ok-tasks.tasks.items ≡ c.len-count-then-len-gt-MOST_TASKS.result = omega (arith, c.len-count-then-len-gt-MOST_TASKS.ensures) in e)

pub returns-in_default-clause-fault : goal.returns-in_default-clause-fault
returns-in_default-clause-fault c s t hs ht =
    let u = c.args.first.now in
    let v = c.args.second.now in
    let names = names_from u v s t hs ht _ _ (c.deref.ensures.value ∙ names_of c.first.view_is) (c.deref-2.ensures.value ∙ names_of c.second.view_is) c.in_ok-names.names.items c.in_ok-names.ensures in
    let tasks = tasks_from u v s t hs ht _ _ (c.deref-3.ensures.value ∙ tasks_of c.first.view_is) (c.deref-4.ensures.value ∙ tasks_of c.second.view_is) c.in_ok-tasks.tasks.items c.in_ok-tasks.ensures in
    too_many_traces u v s t hs ht c.in_ok-names.names.items c.in_ok-tasks.tasks.items names tasks (omega (arith, c.len.ensures, c.if-len-gt-MOST_NAMES.false)) (omega (arith, c.len-2.ensures, c.if-len-gt-MOST_TASKS.false))
    (omega (arith, c.in_default.ensures, traces_of c.first.view_is, traces_of c.second.view_is))

pub returns-clause-merge : goal.returns-clause-merge
returns-clause-merge c s t hs ht =
    let u = c.args.first.now in
    let v = c.args.second.now in
    let names = names_from u v s t hs ht _ _ (c.deref.ensures.value ∙ names_of c.first.view_is) (c.deref-2.ensures.value ∙ names_of c.second.view_is) c.in_ok-names.names.items c.in_ok-names.ensures in
    let tasks = tasks_from u v s t hs ht _ _ (c.deref-3.ensures.value ∙ tasks_of c.first.view_is) (c.deref-4.ensures.value ∙ tasks_of c.second.view_is) c.in_ok-tasks.tasks.items c.in_ok-tasks.ensures in
    let days = days_from u v s t hs ht _ _ (c.deref-5.ensures.value ∙ days_of c.first.view_is) (c.deref-6.ensures.value ∙ days_of c.second.view_is) c.in_ok-days.days.items c.in_ok-days.ensures in
    let task_rows = task_rows_from u v s t hs ht _ _ (c.deref-7.ensures.value ∙ tasks_of c.first.view_is) (c.deref-8.ensures.value ∙ tasks_of c.second.view_is) c.in_ok-tasks.tasks.items c.in_ok-tasks-2.tasks.items tasks c.in_ok-tasks-2.ensures in
    let name_rows = name_rows_from u v s t hs ht _ _ (c.deref-9.ensures.value ∙ names_of c.first.view_is) (c.deref-10.ensures.value ∙ names_of c.second.view_is) c.in_ok-names.names.items c.in_ok-names-2.names.items names c.in_ok-names-2.ensures in
    let sum : c.in-Some.traces ≡ u.traces + v.traces = omega (arith, c.in-Some.ensures, traces_of c.first.view_is, traces_of c.second.view_is) in
    let small : u.traces + v.traces < 2 ^ 64 = omega (arith, c.in-Some.ensures, traces_of c.first.view_is, traces_of c.second.view_is) in (
      merged_table u v s t hs ht c.in-Some.traces c.in_ok-days.days.items c.in_ok-tasks-2.tasks.items c.in_ok-names-2.names.items sum days task_rows name_rows,
      no_limit u v s t hs ht c.in_ok-names.names.items c.in_ok-tasks.tasks.items names tasks (omega (arith, c.len.ensures, c.if-len-gt-MOST_NAMES.false)) (omega (arith, c.len-2.ensures, c.if-len-gt-MOST_TASKS.false)) small,
    )
