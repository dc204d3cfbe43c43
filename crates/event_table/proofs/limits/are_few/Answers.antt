use Rattle.std.proofs.Common.{◌≡◌, ◌≤◌, ◌^◌, List, length, get_or, sym, ap, true≢false, arith}
use Rattle.std.proofs.lemmas.List.Folds.{length-flat_map-take}
use Rattle.trace_types.specs.declared.event.Event.{Event}
use Rattle.event_table.specs.Gathered.{events_of_tables}
use Rattle.event_table.proofs.limits.are_few.Goals as goal

pub returns-then-len-count : goal.returns-then-len-count
returns-then-len-count c =
    let at = c.loop-part in
    let tables = c.args.parts.now in
    let next = length-flat_map-take (λ (events : List Event). events) tables at.part-index c.part-item.result c.loop-part-test.true in
    let same : length (get_or tables at.part-index c.part-item.result) ≡ length c.part-item.result = ap (λ (events : List Event). length events) (sym c.part-item.is) in
    let many : 2 ^ 32 ≤ length (events_of_tables tables) = omega arith in
    (λ no. absurd (true≢false (sym no)), λ few. absurd (omega (arith, few)))
