use Rattle.std.proofs.Common.{◌≡◌, ◌<◌, ◌^◌, ℕ, List, length, take}
use Rattle.trace_types.specs.declared.trace.Trace.{Trace}
use Rattle.trace_types.specs.Parts.{by_text, segments_of}
use Rattle.model_checks.proofs.inputs.are_few.Given as goal

-- so many segments have the first traces, and they are few
pub record AreCounted (traces : List Trace) (index count : ℕ) : Type 0 where
  pub sum : count ≡ length (segments_of by_text (take index traces))
  pub few : count < 2 ^ 32

abbrev pub invariant-loop-trace : goal.invariant-loop-trace
invariant-loop-trace l = AreCounted l.traces l.trace-index l.count
