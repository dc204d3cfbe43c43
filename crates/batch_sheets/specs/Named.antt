-- What is asked of traces that are to be named.
use Rattle.std.specs.Prelude.{◌≤◌, length}
use Rattle.trace_types.specs.declared.trace.Trace.{Trace}
use Rattle.segment_cut.specs.NumberedCuts.{NumberedCut}

-- the trace that a cut one stands for
abbrev pub cut_trace : NumberedCut → Trace
cut_trace c = c.trace

-- the trace has as many segments as a catalogue takes at most
abbrev pub HasFewSegments : Trace → Type 0
HasFewSegments trace = length trace.segments ≤ 4096
