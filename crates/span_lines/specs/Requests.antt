-- The requests of calls, and their names.
use Rattle.std.specs.Prelude.{ℕ, ◌+◌, ◌++◌, List, Bool, false, Option, Some, None, codes, drop}
use Rattle.std.specs.Prelude.{filter, find, if◌then◌else◌, is_none, length, map}
use Rattle.std.specs.List.{flat_map, position_or_len, range_with_len}
use Rattle.std.specs.Str.{bytes_eq}
use Rattle.trace_types.specs.declared.event.Event.{Event}
use Rattle.span_types.specs.declared.span.Span.{Span}
use Rattle.context_forks.specs.Forks.{callers_of}
use Rattle.span_calls.specs.declared.call.Call.{Call}
use Rattle.span_lines.specs.Lines.{thread_lines}
use Rattle.span_lines.specs.Mappings.{Mapping, begins_thread}
use Rattle.span_lines.specs.Messages.{call_span, caller_of_call}

-- the span is this one, by its id in their trace
abbrev pub is_same : Option Span → Span → Bool
is_same None e = false
is_same (Some first) e = bytes_eq first.id e.id

-- it is the first of these entries that is in its trace
abbrev pub is_first_entry : (entries : List Span) → Span → Bool
is_first_entry entries e = is_same (find (λ (f : Span). bytes_eq f.trace e.trace) entries) e

-- the name of the request with this entry: its trace, where it is the first entry of that, and
-- otherwise its trace, a point and its id
abbrev pub name_of_request : (entries : List Span) → Span → List ℕ
name_of_request entries e =
    if is_first_entry entries e then e.trace else e.trace ++ codes "." ++ e.id

module _ (calls : List Call) where
  -- the calls that begin requests: those without a caller
  abbrev pub begins_request : ℕ → Bool
  begins_request i = is_none (caller_of_call calls i)

  abbrev pub request_starts : List ℕ
  request_starts = filter begins_request (range_with_len 0 (length calls))

  -- how many calls a request has that begins with this one: up to where the next one begins
  abbrev pub request_size : ℕ → ℕ
  request_size i =
      1 + position_or_len (λ (o : Option ℕ). is_none o) (drop (i + 1) (callers_of calls))

  -- these calls
  abbrev pub request_calls : ℕ → List ℕ
  request_calls i = range_with_len i (request_size i)

-- the lines of a request that begins with this call: of each of its threads, in the order in which
-- these begin
abbrev pub request_lines : Mapping → (request : List ℕ) → ℕ → List Event
request_lines m request i =
    flat_map (thread_lines m request) (filter (begins_thread m) (request_calls m.calls i))

-- the lines of each request, with the entries of these requests and of others
abbrev pub lines_by_request : Mapping → (entries : List Span) → List (List Event)
lines_by_request m entries = map (λ i. request_lines m
    (name_of_request entries (call_span m.calls i)) i) (request_starts m.calls)
