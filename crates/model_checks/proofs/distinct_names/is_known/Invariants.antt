use Rattle.std.proofs.Common.{take}
use Rattle.std.specs.List.{Contains}
use Rattle.trace_types.specs.Segments.{name_of}
use Rattle.model_checks.proofs.distinct_names.is_known.Given as goal

abbrev pub invariant-loop-name : goal.invariant-loop-name
invariant-loop-name l = Contains ((take l.name-index l.names)) (name_of l.segment) → ⊥
