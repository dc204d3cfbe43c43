use Rattle.std.proofs.Common.{take, map}
use Rattle.trace_types.specs.Segments.{name_of}
use Rattle.model_checks.specs.inner.Growing.{AddsDistinct}
use Rattle.model_checks.proofs.distinct_names.add_names.Given as goal

abbrev pub invariant-loop-segment : goal.invariant-loop-segment
invariant-loop-segment l = AddsDistinct (map name_of (take l.segment-index l.segment-items)) (l.initial.names.items) (l.names.items)
