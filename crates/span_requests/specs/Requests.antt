-- The requests that are found in an input.
use Rattle.std.specs.Prelude.{◌≡◌, ◌<◌, List, All, length}
use Rattle.std.specs.List.{count_by}
use Rattle.span_types.specs.declared.span.Span.{Span}
use Rattle.span_requests.specs.CallerNumbers.{AreCallers, AreRoots, HaveLastCallers}
use Rattle.span_requests.specs.Callers.{caller_numbers, misses_parent}
use Rattle.span_requests.specs.Entries.{AreEntries, spans_at}
use Rattle.span_requests.specs.SpansOnce.{lent_spans, spans_once}
use Rattle.span_requests.specs.declared.requests.Requests.{Requests}

-- the spans of an input, each once, their callers, which come to an end, the entries in the order of
-- requests, each once, and how many spans miss their parent
pub record AreRequests (input : List Span) (r : Requests) : Type 0 where
  pub spans : lent_spans r.spans.items ≡ spans_once input
  pub callers : r.callers.items ≡ caller_numbers (spans_once input)
  pub called : AreCallers r.callers.items
  pub ends : HaveLastCallers r.callers.items
  pub entries : (d : Span) → AreEntries (spans_once input) (spans_at (spans_once input) d r.entries.items)
  pub roots : AreRoots r.callers.items r.entries.items
  pub within : All (λ n. n < length (spans_once input)) r.entries.items
  pub missing : r.missing ≡ count_by (misses_parent (spans_once input)) (spans_once input)
