use Rattle.std.proofs.Common.{◌≡◌, ◌+◌, ◌≤◌, length, take, ap, ◌∙◌, arith}
use Rattle.std.proofs.lemmas.List.{length-append}
use Rattle.day_partitions.specs.Books.{KeptDay, all_traces}
use Rattle.kept_names.proofs.MarkLemmas.{lists_more, lists_within}
use Rattle.kept_names.proofs.marking.count_traces.Goals as goal

pub overflow_add-count : goal.overflow_add-count
overflow_add-count c =
    let before = all_traces (take c.loop-place.place c.args.book.now.book.days) in
    let more = lists_more (λ (k : KeptDay). k.traces) c.args.book.now.book.days c.loop-place.place c.traces.result.now c.traces.ensures.traces in
    let long : length (all_traces (take (c.loop-place.place + 1) c.args.book.now.book.days)) ≡ length before + length c.traces.result.now = ap length more ∙ length-append before c.traces.result.now in
    let within : length (all_traces (take (c.loop-place.place + 1) c.args.book.now.book.days)) ≤ length (all_traces c.args.book.now.book.days) = lists_within (λ (k : KeptDay). k.traces) c.args.book.now.book.days (c.loop-place.place + 1) in
    omega (arith, c.days-days.ensures.kept.book.counted, c.loop-place.invariant)

pub loop-place-preserved : goal.loop-place-preserved
loop-place-preserved c =
    let before = all_traces (take c.loop-place.place c.args.book.now.book.days) in
    let more = lists_more (λ (k : KeptDay). k.traces) c.args.book.now.book.days c.loop-place.place c.traces.result.now c.traces.ensures.traces in
    let long : length (all_traces (take (c.loop-place.place + 1) c.args.book.now.book.days)) ≡ length before + length c.traces.result.now = ap length more ∙ length-append before c.traces.result.now in
    omega (arith, c.loop-place.invariant)
