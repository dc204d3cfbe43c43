-- The spans of Zipkin: Zipkin API v2 (zipkin.io, zipkin2-api.yaml): Span, Endpoint, ListOfSpans and
-- ListOfTraces. Times are in microseconds there.
use Rattle.std.specs.Prelude.{ℕ, List, [], ◌∷◌, codes, unwrap_or, Option, None, Result, Ok, Err}
use Rattle.std.specs.Prelude.{option_map}
use Rattle.std.specs.Option.{option_map_or}
use Rattle.json.specs.Json.{Json}
use Rattle.json.specs.Find.{as_array}
use Rattle.span_types.specs.declared.span.Span.{Span}
use Rattle.span_text.specs.declared.member.Member.{Member}
use Rattle.span_text.specs.declared.member.Member.TheVariants as members
use Rattle.span_text.specs.declared.why.Why.{Why}
use Rattle.span_text.specs.declared.why.Why.TheVariants.{NotJson, NotArray}
use Rattle.span_text.specs.declared.placed.Fault.{Fault}
use Rattle.span_text.specs.declared.placed.Placed.{Placed}
use Rattle.span_text.specs.declared.span_making.SpanIds.{SpanIds}
use Rattle.span_text.specs.Ids.{required_id, optional_id}
use Rattle.span_text.specs.Members.{optional_text, optional_object, list_of}
use Rattle.span_text.specs.Numbers.{required_whole, optional_whole}
use Rattle.span_text.specs.Outcomes.{◌>>=◌}
use Rattle.span_text.specs.Parsing.{json_of}
use Rattle.span_text.specs.Places.{gather_from, numbered_span}
use Rattle.span_text.specs.Spans.{Origin, span_with}
use Rattle.span_text.specs.SpanTimes.{micro_times_of}
use Rattle.zipkin_spans.specs.Kinds.{kind_at}
use Rattle.zipkin_spans.specs.Halves.{apart}

-- the ids of a span: up to 16 bytes and up to 8 bytes
unfoldable pub ids_at : Json → Result SpanIds Why
ids_at j = do
  trace ← required_id 1 32 members.TraceId j
  id ← required_id 1 16 members.Id j
  parent ← optional_id 1 16 members.ParentId j
  Ok (record { trace = trace; id = id; parent = parent })

-- the text of a member of an object; none where the object is absent
abbrev pub text_within : Member → Option Json → Result (Option (List ℕ)) Why
text_within m object = option_map_or (optional_text m) object (Ok None)

-- the service and the machine of a span, as far as they are named
abbrev pub origin_with : Option (List ℕ) → Option (List ℕ) → Option (List ℕ) → Origin
origin_with service host address = record {
  service = unwrap_or service (codes "unknown_service");
  machine = unwrap_or host (unwrap_or address (unwrap_or service (codes "unknown_service")));
}

-- the service of the local endpoint; the machine is the tag host.name, else the endpoint's address,
-- else the service
unfoldable pub origin_at : Json → Result Origin Why
origin_at j = do
  endpoint ← optional_object members.LocalEndpoint j
  service ← text_within members.ServiceName endpoint
  address ← text_within members.Ipv4 endpoint
  tags ← optional_object members.Tags j
  host ← text_within members.HostName tags
  Ok (origin_with service host address)

-- the start and the end of a span; its duration may be absent
unfoldable pub times_at : Json → Result (ℕ × ℕ) Why
times_at j = do
  start ← required_whole members.Timestamp j
  duration ← optional_whole members.Duration j
  micro_times_of start duration

-- a span
unfoldable pub span_of : Json → Result Span Why
span_of j = do
  kind ← kind_at j
  ids ← ids_at j
  origin ← origin_at j
  name ← optional_text members.Name j
  times ← times_at j
  Ok (span_with ids origin (unwrap_or name []) kind times)

-- the span with number n
abbrev pub span_said : ℕ → Json → Result (List Placed) Fault
span_said n j = numbered_span n (span_of j)

-- the spans of an element: a trace is a list of spans, and anything else is a span
abbrev pub element_said : ℕ → Json → Result (List Placed) Fault
element_said n j =
    option_map_or (gather_from span_said n) (option_map list_of (as_array j)) (span_said n j)

-- a fault of the whole file stands at the first span
abbrev pub whole_fault : Why → Fault
whole_fault why = record { place = 1; why = why }

-- the spans of a value, as they stand there
abbrev pub value_said : Json → Result (List Placed) Fault
value_said j =
    option_map_or (gather_from element_said 1) (option_map list_of (as_array j))
    (Err (whole_fault NotArray))

-- the spans of the value that bytes are, as they stand there
abbrev pub bytes_said : List ℕ → Result (List Placed) Fault
bytes_said bytes = option_map_or value_said (json_of bytes) (Err (whole_fault NotJson))

-- the spans of a file, each with its number, or its first fault; halves of shared spans are told
-- apart
abbrev pub spans_said : List ℕ → Result (List Placed) Fault
spans_said bytes = bytes_said bytes >>= λ spans. Ok (apart spans)
