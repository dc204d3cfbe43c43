use Rattle.std.proofs.Common.{◌+◌, length, take, arith, ap, ◌∙◌, sym}
use Rattle.std.proofs.lemmas.List.{length-append}
use Rattle.day_partitions.specs.Books.{all_traces}
use Rattle.trace_paths.proofs.BookLemmas.{days_more, days_part}
use Rattle.trace_paths.proofs.kept.count_traces.Goals as goal

pub overflow_add-count : goal.overflow_add-count
overflow_add-count c =
    let days = c.args.book.now.days in
    let end = c.days-place-end.ensures.count in
    let more = days_more days c.days.place c.traces.result.now (omega arith) c.traces.ensures in
    let part = days_part days (c.days.place + 1) in
    let few = c.days-place-end.ensures.kept.counted in
    let so_far = c.days.invariant in
    omega (arith, ap length more, length-append (all_traces (take c.days.place days)) c.traces.result.now)

pub days-preserved : goal.days-preserved
days-preserved c =
    let days = c.args.book.now.days in
    let end = c.days-place-end.ensures.count in
    let more = days_more days c.days.place c.traces.result.now (omega arith) c.traces.ensures in
    let so_far = c.days.invariant in
    omega (arith, ap length more, length-append (all_traces (take c.days.place days)) c.traces.result.now)
