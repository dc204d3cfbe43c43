-- How the figures of two tasks grow by a trace in which they share elements.
use Rattle.std.specs.Prelude.{ℕ, ◌+◌, Bool, ◌&&◌, ◌==◌, if◌then◌else◌}
use Rattle.evidence_rules.specs.declared.sharing.Sharing.{Sharing}

-- the figures with the trace of this index, which has so many elements in both tasks
abbrev pub with_trace : Sharing → ℕ → ℕ → Bool → Sharing
with_trace f index elements refutes = record {
  traces = f.traces + 1;
  elements = f.elements + elements;
  refuted = f.refuted + (if refutes then 1 else 0);
  first_refuted = if refutes && f.refuted == 0 then index else f.first_refuted;
}

-- the figures as they are to be told after so many traces: where none refutes yet, all stand before
-- the first that does
abbrev pub told_after : ℕ → Sharing → Sharing
told_after count f = record {
  traces = f.traces;
  elements = f.elements;
  refuted = f.refuted;
  first_refuted = if f.refuted == 0 then count else f.first_refuted;
}
