-- The spans of Jaeger: jaegertracing.io, model/json/model.go: Trace, Span; the answer of its query
-- service and its user interface's download wrap traces into the member data. Times are in
-- microseconds there.
use Rattle.std.specs.Prelude.{ℕ, List, codes, Bool, false, Option, option_map, Result, Ok, Err}
use Rattle.std.specs.Option.{option_map_or}
use Rattle.json.specs.Json.{Json}
use Rattle.span_types.specs.declared.span.Span.{Span}
use Rattle.span_text.specs.declared.member.Member.{Member}
use Rattle.span_text.specs.declared.member.Member.TheVariants as members
use Rattle.span_text.specs.declared.why.Why.{Why}
use Rattle.span_text.specs.declared.why.Why.TheVariants.{NotJson}
use Rattle.span_text.specs.declared.placed.Fault.{Fault}
use Rattle.span_text.specs.declared.placed.Placed.{Placed}
use Rattle.span_text.specs.declared.span_making.SpanIds.{SpanIds}
use Rattle.span_text.specs.Ids.{required_id}
use Rattle.span_text.specs.Members.{required, required_text, objects, objects_of}
use Rattle.span_text.specs.Numbers.{required_whole}
use Rattle.span_text.specs.Outcomes.{◌>>=◌}
use Rattle.span_text.specs.Parsing.{json_of}
use Rattle.span_text.specs.Places.{at_place, gather_from, numbered_span}
use Rattle.span_text.specs.Spans.{span_with}
use Rattle.span_text.specs.SpanTimes.{micro_times_of}
use Rattle.jaeger_spans.specs.Kinds.{kind_of}
use Rattle.jaeger_spans.specs.Origins.{origin_of}
use Rattle.jaeger_spans.specs.Parents.{Parent, parent_at}

-- the ids of a span, and whether it follows from its parent
pub record Links : Type 0 where
  pub ids : SpanIds
  pub follows : Bool

-- the same, by the ids of a span and its parent
abbrev pub links_with : List ℕ → List ℕ → Option Parent → Links
links_with trace id parent = record {
  ids = record { trace = trace; id = id; parent = option_map (λ (p : Parent). p.id) parent };
  follows = option_map_or (λ (p : Parent). p.follows) parent false;
}

-- the ids of a span: up to 16 bytes and up to 8 bytes
unfoldable pub links_at : Json → Result Links Why
links_at span = do
  trace ← required_id 1 32 members.TraceIdOfJaeger span
  id ← required_id 1 16 members.SpanIdOfJaeger span
  parent ← parent_at trace span
  Ok (links_with trace id parent)

-- the start and the end of a span
unfoldable pub times_at : Json → Result (ℕ × ℕ) Why
times_at span = do
  start ← required_whole members.StartTime span
  duration ← required_whole members.Duration span
  micro_times_of start duration

-- a span of a trace
unfoldable pub span_of : Json → Json → Result Span Why
span_of trace span = do
  origin ← origin_of trace span
  links ← links_at span
  tags ← objects members.Tags span
  name ← required_text members.OperationName span
  times ← times_at span
  Ok (span_with links.ids origin name (kind_of links.follows tags) times)

-- the span with number n
abbrev pub span_said : Json → ℕ → Json → Result (List Placed) Fault
span_said trace n span = numbered_span n (span_of trace span)

-- the objects of a list that must be there
unfoldable pub required_objects : Member → Json → Result (List Json) Why
required_objects m j = do
  found ← required m j
  objects_of m found

-- the spans of a trace whose first span has number n
abbrev pub trace_said : ℕ → Json → Result (List Placed) Fault
trace_said n trace =
    at_place n (required_objects members.Spans trace) >>= gather_from (span_said trace) n

-- the spans of a value; a fault of the whole file stands at the first span
abbrev pub value_said : Json → Result (List Placed) Fault
value_said j = at_place 1 (required_objects members.Data j) >>= gather_from trace_said 1

-- the spans of a file, each with its number, or its first fault
abbrev pub spans_said : List ℕ → Result (List Placed) Fault
spans_said bytes =
    option_map_or value_said (json_of bytes) (Err (record { place = 1; why = NotJson }))
