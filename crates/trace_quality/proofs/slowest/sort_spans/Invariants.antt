use Rattle.std.proofs.Common.{◌≡◌, take}
use Rattle.trace_quality.specs.Slowest.{spans_of}
use Rattle.trace_quality.proofs.slowest.sort_spans.Given as goal

-- those of the traces so far
abbrev pub invariant-facts : goal.invariant-facts
invariant-facts l = l.spans.items ≡ take l.index (spans_of l.facts)
