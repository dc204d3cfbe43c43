use Rattle.recording_checks.specs.inner.Drawn.{AreDrawn}
use Rattle.recording_checks.proofs.drawn_traces.draw_segments.Given as goal

abbrev pub invariant-loop-index : goal.invariant-loop-index
invariant-loop-index l = AreDrawn l.segments.items
