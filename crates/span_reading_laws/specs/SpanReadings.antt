-- What is written of spans is read again: a statement that a law proves.
use Rattle.std.specs.Prelude.{ℕ, ◌≡◌, ◌<◌, ◌^◌, List, Option, Ok, length, map}
use Rattle.std.specs.List.{All, flat_map}
use Rattle.trace_types.specs.declared.event.Event as events
use Rattle.event_lines.specs.InputLines.{lines_said}
use Rattle.event_lines.specs.declared.line.Line.{Line}
use Rattle.event_lines.specs.declared.line.Line.TheVariants.{Event}
use Rattle.span_types.specs.declared.span.Span.{Span}
use Rattle.span_requests.specs.SpansOnce.{spans_once}
use Rattle.span_lines.specs.SpanTexts.{AreSpanLines}
use Rattle.span_lines.specs.declared.span_text.SpanText.{SpanText}
use Rattle.reading_laws.specs.Readings.{numbered_from}
use Rattle.span_laws.specs.GoodLines.{IsGiven}

-- the events of requests, each as a line
abbrev pub lines_of : List (List events.Event) → List Line
lines_of requests = map (λ e. Event e) (flat_map (λ es. es) requests)

-- the text of spans as readers give them, fewer than 10,000,000, has no bad line, and says the events
-- of their requests, under their numbers in the text
abbrev pub TextOfSpansIsReadAgain : Type 0
TextOfSpansIsReadAgain = (grace : ℕ) (asked : Option (List ℕ)) (input : List Span) (t : SpanText)
    → All IsGiven (spans_once input) → length (spans_once input) < 10 ^ 7
    → (r : AreSpanLines grace asked input t)
    → lines_said t.text.items ≡ Ok (numbered_from 1 (lines_of r.requests))
