-- Which spans the lines of each request tell: a statement that a law proves.
use Rattle.std.specs.Prelude.{ℕ, ◌≡◌, ◌≢◌, ◌<◌, ◌^◌, List, [], Option, Some, None, true, length, map}
use Rattle.std.specs.Prelude.{filter, slice_index, slice_index_or}
use Rattle.std.specs.List.{All, AllPairs, Contains}
use Rattle.trace_types.specs.declared.event.Event.{Event}
use Rattle.span_types.specs.declared.span.Span.{Span}
use Rattle.span_requests.specs.CallerNumbers.{number_above}
use Rattle.span_requests.specs.Callers.{caller_numbers}
use Rattle.span_requests.specs.Faults.{HaveEntries}
use Rattle.span_requests.specs.SpansOnce.{spans_once}
use Rattle.context_names.specs.Machines.{MachineNames}
use Rattle.span_calls.specs.Calls.{is_asked}
use Rattle.span_calls.specs.Seen.{span_at}
use Rattle.span_lines.specs.Requests.{name_of_request}
use Rattle.span_lines.specs.SpanLines.{AreRequestLines}
use Rattle.span_laws.specs.LineLaws.{AreToldOnce, BeginWithEntry, end_place, is_end_line}
use Rattle.span_laws.specs.LineLaws.{is_start_line, start_place}

-- the span with this number is an entry, that of a request that is asked for
pub record IsAskedEntry (spans : List Span) (asked : Option (List ℕ)) (n : ℕ) : Type 0 where
  pub there : n < length spans
  pub first : slice_index_or (caller_numbers spans) n None ≡ None
  pub wanted : is_asked asked (span_at spans n) ≡ true

-- the numbers of these entries, each once
pub record AreAskedEntries (spans : List Span) (asked : Option (List ℕ)) (numbers : List ℕ) : Type 0 where
  pub apart : AllPairs (λ m n. m ≢ n) numbers
  pub each : All (IsAskedEntry spans asked) numbers
  pub all : (n : ℕ) → IsAskedEntry spans asked n → Contains numbers n

-- the span with this number is in the request with this entry: it is so many calls below it
pub record IsInRequest (spans : List Span) (entry n : ℕ) : Type 0 where
  pub calls : ℕ
  pub above : number_above (caller_numbers spans) calls n ≡ Some entry

-- the numbers of the spans of that request, each once
pub record AreInRequest (spans : List Span) (entry : ℕ) (numbers : List ℕ) : Type 0 where
  pub apart : AllPairs (λ m n. m ≢ n) numbers
  pub within : All (λ n. n < length spans) numbers
  pub each : All (IsInRequest spans entry) numbers
  pub all : (n : ℕ) → n < length spans → IsInRequest spans entry n → Contains numbers n

-- these lines tell the request with this entry: the first is the start of the entry, each of its spans
-- starts on one of them and ends on one, no other span does, and all are in the request that is named
-- for the entry among these
pub record TellRequest (spans entries : List Span) (machines : MachineNames) (entry : ℕ)
    (lines : List Event) : Type 0 where
  pub begin : BeginWithEntry spans entries machines entry lines
  pub starts : AreToldOnce spans (AreInRequest spans entry) is_start_line (start_place machines) lines
  pub ends : AreToldOnce spans (AreInRequest spans entry) is_end_line (end_place machines) lines
  pub named : All (λ (e : Event). e.request ≡ name_of_request entries (span_at spans entry)) lines

-- there is a list of lines for each request that is asked for, in the order of these entries, which
-- tells it
pub record TellRequests (spans : List Span) (entries : List ℕ) (machines : MachineNames)
    (asked : Option (List ℕ)) (requests : List (List Event)) : Type 0 where
  pub numbers : List ℕ
  pub in_order : numbers ≡ filter (λ e. is_asked asked (span_at spans e)) entries
  pub asked_for : AreAskedEntries spans asked numbers
  pub size : length requests ≡ length numbers
  pub each : (k : ℕ) → k < length requests → TellRequest spans (map (span_at spans) entries)
      machines (slice_index numbers k) (slice_index_or requests k [])

-- both lines of each span that is asked for stand in one request, that of the span's entry
abbrev pub RequestsTellTheirSpans : Type 0
RequestsTellTheirSpans = (input : List Span) (grace : ℕ) (asked : Option (List ℕ))
    (requests : List (List Event)) → HaveEntries input
    → length (spans_once input) < 2 ^ 64
    → (r : AreRequestLines (spans_once input) grace asked requests)
    → TellRequests (spans_once input) r.entries r.machines asked requests
