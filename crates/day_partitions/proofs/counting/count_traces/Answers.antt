use Rattle.std.proofs.Common.{◌+◌, ap, arith, length}
use Rattle.std.proofs.lemmas.List.{get_or_read}
use Rattle.day_partitions.specs.declared.day.Day.{Day}
use Rattle.day_partitions.proofs.CountLemmas.{count_more, count_within}
use Rattle.day_partitions.proofs.counting.count_traces.Goals as goal

pub overflow_add-count : goal.overflow_add-count
overflow_add-count c =
    let ds = c.args.days.now in let i = c.days.day-index in let d = c.day-item.result in
    let size = ap (λ (x : Day). length x.traces.items) (get_or_read ds i d c.days-test.true c.day-item.is d) in
    omega (arith, count_more ds i d c.days-test.true, count_within ds (i + 1), size, c.days.invariant.count, c.len-count.ensures, c.requires)

pub days-preserved : goal.days-preserved
days-preserved c =
    let ds = c.args.days.now in let i = c.days.day-index in let d = c.day-item.result in
    let size = ap (λ (x : Day). length x.traces.items) (get_or_read ds i d c.days-test.true c.day-item.is d) in
    record { count = omega (arith, count_more ds i d c.days-test.true, size, c.days.invariant.count, c.len-count.ensures) }
