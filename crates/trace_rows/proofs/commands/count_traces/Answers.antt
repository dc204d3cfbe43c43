use Rattle.std.proofs.Common.{◌<◌, length, refl, arith}
use Rattle.trace_rows.proofs.BookLemmas.{count_next, count_within}
use Rattle.trace_rows.proofs.commands.count_traces.Goals as goal

pub overflow_add-count : goal.overflow_add-count
overflow_add-count c =
    let lt : c.loop-place.place < length c.args.book.now.book.days = omega arith in
    let within = count_within c.args.book.now.book.days c.loop-place.place c.loop-place.count (length c.traces.result.now) c.traces.result.now lt c.loop-place.invariant.so_far c.traces.ensures.traces refl in
    omega (arith, within, c.days-place-end.ensures.kept.book.counted)

pub loop-place-preserved : goal.loop-place-preserved
loop-place-preserved c =
    let lt : c.loop-place.place < length c.args.book.now.book.days = omega arith in
    record { so_far = count_next c.args.book.now.book.days c.loop-place.place c.loop-place.count (length c.traces.result.now) c.traces.result.now lt c.loop-place.invariant.so_far c.traces.ensures.traces refl }
