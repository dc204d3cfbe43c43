use Rattle.std.proofs.Common.{◌≡◌, filter, take}
use Rattle.std.specs.Prelude.{option_copied}
use Rattle.span_calls.specs.Calls.{is_asked}
use Rattle.span_calls.specs.Seen.{span_at}
use Rattle.span_requests.specs.SpansOnce.{lent_spans}
use Rattle.span_calls.proofs.asking.asked_entries.Given as goal

-- those of the entries so far that are asked for
abbrev pub invariant-loop-entry : goal.invariant-loop-entry
invariant-loop-entry l = l.found.items ≡ filter (λ e. is_asked (option_copied l.asked) (span_at (lent_spans l.spans) e)) (take l.entry-index l.entries)
