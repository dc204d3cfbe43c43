use Rattle.std.proofs.Common.{map, take}
use Rattle.span_calls.specs.Seen.{span_at}
use Rattle.span_requests.specs.SpansOnce.{lent_spans}
use Rattle.span_lines.specs.inner.FirstEntries.{AreFirst}
use Rattle.span_lines.proofs.requests.find_first_entries.Given as goal

-- the first entries of traces among those so far
abbrev pub invariant-loop-entry : goal.invariant-loop-entry
invariant-loop-entry l = AreFirst (map (span_at (lent_spans l.spans)) (take l.entry-index l.entries)) l.first
