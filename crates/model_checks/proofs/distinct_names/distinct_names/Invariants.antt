use Rattle.std.proofs.Common.{[], take, map}
use Rattle.trace_types.specs.Segments.{name_of}
use Rattle.model_checks.specs.inner.Growing.{AddsDistinct}
use Rattle.trace_types.specs.Parts.{by_text, segments_of}
use Rattle.model_checks.proofs.distinct_names.distinct_names.Given as goal

abbrev pub invariant-loop-trace : goal.invariant-loop-trace
invariant-loop-trace l = AddsDistinct (map name_of (segments_of by_text (take l.trace-index l.traces))) [] (l.names.items)
