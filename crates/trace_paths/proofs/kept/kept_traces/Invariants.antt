use Rattle.std.proofs.Common.{◌≡◌, ◌++◌, map, take}
use Rattle.std.specs.Borrow.{Bor}
use Rattle.day_partitions.specs.Books.{all_traces}
use Rattle.trace_types.specs.declared.named_trace.NamedTrace.{NamedTrace}
use Rattle.trace_paths.proofs.kept.kept_traces.Given as goal

abbrev pub invariant-days : goal.invariant-days
invariant-days l =
    map (λ (t : Bor NamedTrace). t.now) l.traces.items ≡ all_traces (take l.place l.book.days)

abbrev pub invariant-of_day : goal.invariant-of_day
invariant-of_day l =
    map (λ (t : Bor NamedTrace). t.now) l.traces.items
    ≡ all_traces (take l.place l.book.days) ++ take l.trace-index l.trace-items
