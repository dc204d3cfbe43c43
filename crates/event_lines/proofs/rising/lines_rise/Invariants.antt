use Rattle.event_lines.proofs.RiseLemmas.{RiseBelow}
use Rattle.event_lines.proofs.rising.lines_rise.Given as goal

-- the lines before the index rise
abbrev pub invariant-loop-index : goal.invariant-loop-index
invariant-loop-index l = RiseBelow l.index l.events
