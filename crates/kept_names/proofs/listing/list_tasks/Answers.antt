use Rattle.std.proofs.Common.{◌≡◌, length, rules, arith}
use Rattle.std.specs.Cmp.Lexicographic.{slice_cmp}
use Rattle.std.specs.Ordering.{nat_cmp}
use Rattle.std.specs.Vec.{vec_len}
use Rattle.std.proofs.lemmas.Option.{slice_get-get_or}
use Rattle.trace_types.proofs.ComparingLemmas.{text_exact, text_total}
use Rattle.kept_names.proofs.ListingLemmas.{are_listed, collected, collects_next}
use Rattle.kept_names.proofs.listing.list_tasks.Goals as goal

pub loop-number-preserved : goal.loop-number-preserved
loop-number-preserved c = collects_next c.args.catalogue.now.tasks c.args.marks.now c.loop-number.number c.task_text.result.now c.loop-number.items.items c.list_where.new.items.items _ c.task_text.ensures
    (slice_get-get_or c.args.marks.now c.loop-number.number _ (omega (arith, c.requires, c.tasks-count.ensures.count, c.tasks-count.ensures.kept.few_tasks))) c.in_ok-list_where.ensures c.loop-number.invariant

pub returns-clause-marked : goal.returns-clause-marked
returns-clause-marked c = collected c.args.catalogue.now.tasks c.args.marks.now (slice_cmp nat_cmp) text_total text_exact c.tasks-count.ensures.kept.tasks_differ c.loop-number.number (omega (arith, c.tasks-count.ensures.count)) c.loop-number.items.items c.sort_unstable.new.self.items
    c.loop-number.invariant c.sort_unstable.ensures.permutation c.sort_unstable.ensures.sorted

pub returns-clause-listed : goal.returns-clause-listed
returns-clause-listed c = are_listed (slice_cmp nat_cmp) text_total c.args.catalogue.now.tasks c.args.marks.now 64 (c.tasks-count.ensures.kept.few_tasks) c.sort_unstable.new.self.items
    (collected c.args.catalogue.now.tasks c.args.marks.now (slice_cmp nat_cmp) text_total text_exact c.tasks-count.ensures.kept.tasks_differ c.loop-number.number (omega (arith, c.tasks-count.ensures.count)) c.loop-number.items.items c.sort_unstable.new.self.items
    c.loop-number.invariant c.sort_unstable.ensures.permutation c.sort_unstable.ensures.sorted)

pub returns-clause-few : goal.returns-clause-few
returns-clause-few c =
    let size : vec_len c.loop-number.items ≡ length c.loop-number.items.items = search rules in
    omega (arith, c.sort_unstable.ensures.len, c.loop-number.invariant.few, c.tasks-count.ensures.count, c.tasks-count.ensures.kept.few_tasks)
