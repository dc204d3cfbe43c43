-- That the event lines of spans are good: a statement that a law proves.
use Rattle.std.specs.Prelude.{ℕ, ◌<◌, ◌≤◌, ◌^◌, List, Option, Some, None, length, ⊤}
use Rattle.std.specs.List.{All}
use Rattle.std.specs.Str.{IsUtf8}
use Rattle.trace_types.specs.Times.{latest_time}
use Rattle.trace_types.specs.declared.event.Event.{Event}
use Rattle.span_types.specs.declared.span.Span.{Span}
use Rattle.span_requests.specs.Faults.{HaveEntries}
use Rattle.span_requests.specs.SpansOnce.{spans_once}
use Rattle.name_laws.specs.GoodNames.{IsLineText}
use Rattle.span_lines.specs.SpanLines.{AreRequestLines}

-- an id of at most so many bytes, which are those from 0 to z
pub record IsIdText (most : ℕ) (text : List ℕ) : Type 0 where
  pub some : 0 < length text
  pub few : length text ≤ most
  pub bytes : All (λ c. (48 ≤ c) × (c ≤ 122)) text

-- a span as readers give it: ids, texts of UTF-8, a machine with a name, times in order and in range
pub record IsGiven (s : Span) : Type 0 where
  pub trace : IsIdText 32 s.trace
  pub id : IsIdText 17 s.id
  pub service : IsUtf8 s.service
  pub name : IsUtf8 s.name
  pub machine : IsUtf8 s.machine
  pub has_machine : 0 < length s.machine
  pub ordered : s.start ≤ s.end
  pub timely : s.end ≤ latest_time

-- a message that a line may have, or none
abbrev pub IsLineMessage : Option (List ℕ) → Type 0
IsLineMessage None = ⊤
IsLineMessage (Some message) = IsLineText message

-- an event that a line may say
pub record IsGood (e : Event) : Type 0 where
  pub request : IsLineText e.request
  pub machine : IsLineText e.machine
  pub task : IsLineText e.task
  pub event : IsLineText e.event
  pub send : IsLineMessage e.send
  pub recv : IsLineMessage e.recv
  pub timely : e.time ≤ latest_time

-- each line of spans as readers give them is good, where there are fewer than 10,000,000
abbrev pub LinesAreGood : Type 0
LinesAreGood = (input : List Span) (grace : ℕ) (asked : Option (List ℕ))
    (requests : List (List Event)) → HaveEntries input → All IsGiven (spans_once input)
    → length (spans_once input) < 10 ^ 7
    → AreRequestLines (spans_once input) grace asked requests → All (All IsGood) requests
