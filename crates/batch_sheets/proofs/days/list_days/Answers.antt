use Rattle.std.specs.Prelude.{nat_eq}
use Rattle.std.proofs.lemmas.List.Filters.{dedup_is}
use Rattle.batch_sheets.proofs.DayLemmas.{days_listed}
use Rattle.batch_sheets.proofs.days.list_days.Goals as goal

pub returns : goal.returns
returns c =
    days_listed c.args.traces.now c.loop-trace.trace-index c.loop-trace.days.items c.sort_unstable.new.self.items c.dedup.new.self.items
    c.loop-trace-test.false c.loop-trace.invariant c.sort_unstable.ensures.permutation c.sort_unstable.ensures.sorted
    (dedup_is nat_eq c.sort_unstable.new.self.items c.dedup.new.self.items c.dedup.ensures.filtered)
