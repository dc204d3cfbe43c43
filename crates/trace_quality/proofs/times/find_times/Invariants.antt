use Rattle.trace_quality.proofs.TimeLemmas.{AreTimesBelow}
use Rattle.trace_quality.proofs.times.find_times.Given as goal

-- those of the events so far
abbrev pub invariant-events : goal.invariant-events
invariant-events l = AreTimesBelow l.raw.trace.events l.at l.least l.greatest
