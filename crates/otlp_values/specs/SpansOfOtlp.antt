-- The spans of OpenTelemetry: the JSON encoding of OpenTelemetry Protocol 1.x (opentelemetry.io,
-- "OTLP Specification", JSON Protobuf Encoding; opentelemetry/proto/trace/v1/trace.proto). Ids are
-- hexadecimal there, and numbers of 64 bits are texts or numbers.
use Rattle.std.specs.Prelude.{ℕ, ◌==◌, List, [], ◌∷◌, length, codes, Bool, ◌||◌, is_some, unwrap_or}
use Rattle.std.specs.Prelude.{Option, Result, Ok, Err, if◌then◌else◌}
use Rattle.std.specs.Option.{option_map_or}
use Rattle.json.specs.Json.{Json}
use Rattle.span_types.specs.declared.span.Span.{Span}
use Rattle.span_text.specs.declared.member.Member.TheVariants as members
use Rattle.span_text.specs.declared.why.Why.{Why}
use Rattle.span_text.specs.declared.why.Why.TheVariants.{Missing}
use Rattle.span_text.specs.declared.placed.Placed.{Placed}
use Rattle.span_text.specs.declared.span_making.SpanIds.{SpanIds}
use Rattle.span_text.specs.declared.tags.TagForm.TheVariants.{Kinds}
use Rattle.span_text.specs.Ids.{required_id, optional_id}
use Rattle.span_text.specs.Members.{given, required_text, objects, optional_object}
use Rattle.span_text.specs.Numbers.{required_whole}
use Rattle.span_text.specs.Outcomes.{◌>>=◌, gather}
use Rattle.span_text.specs.Spans.{Origin, span_with}
use Rattle.span_text.specs.SpanTimes.{times_of}
use Rattle.span_text.specs.Tags.{tag}
use Rattle.otlp_values.specs.Kinds.{kind_at}

-- the ids of a span: 16 bytes and 8 bytes; one whose parent is absent or empty has none
unfoldable pub ids_at : Json → Result SpanIds Why
ids_at j = do
  trace ← required_id 32 32 members.TraceId j
  id ← required_id 16 16 members.SpanId j
  parent ← optional_id 16 16 members.ParentSpanId j
  Ok (record { trace = trace; id = id; parent = parent })

-- the start and the end of a span
unfoldable pub times_at : Json → Result (ℕ × ℕ) Why
times_at j = do
  start ← required_whole members.StartTimeUnixNano j
  end ← required_whole members.EndTimeUnixNano j
  times_of start end

-- a span of this origin
unfoldable pub span_of : Origin → Json → Result Span Why
span_of origin j = do
  kind ← kind_at j
  ids ← ids_at j
  name ← required_text members.Name j
  times ← times_at j
  Ok (span_with ids origin name kind times)

-- a span that stands in line n
abbrev pub placed_span : ℕ → Origin → Json → Result (List Placed) Why
placed_span n origin j = span_of origin j >>= λ s. Ok (record { place = n; span = s } ∷ [])

-- the spans of a scope
unfoldable pub spans_of_scope : ℕ → Origin → Json → Result (List Placed) Why
spans_of_scope n origin j = do
  spans ← objects members.Spans j
  gather (placed_span n origin) spans

-- the service and the machine that attributes name: semantic conventions for resources
abbrev pub service_of : List Json → List ℕ
service_of attributes =
    unwrap_or (tag Kinds (codes "service.name") attributes) (codes "unknown_service")

abbrev pub machine_of : List Json → List ℕ
machine_of attributes =
    unwrap_or (tag Kinds (codes "host.name") attributes)
    (unwrap_or (tag Kinds (codes "service.instance.id") attributes) (service_of attributes))

abbrev pub origin_of : List Json → Origin
origin_of attributes = record { service = service_of attributes; machine = machine_of attributes }

-- the attributes of the resource that recorded the spans; none where it is absent
abbrev pub attributes_of : Option Json → Result (List Json) Why
attributes_of resource = option_map_or (objects members.Attributes) resource (Ok [])

-- the scopes of a resource; before version 0.15 they were called instrumentation libraries, and
-- these count where there are no scopes
unfoldable pub scopes_of : Json → Result (List Json) Why
scopes_of j = do
  scopes ← objects members.ScopeSpans j
  if length scopes == 0 then objects members.InstrumentationLibrarySpans j else Ok scopes

-- the spans of a resource
unfoldable pub spans_of_resource : ℕ → Json → Result (List Placed) Why
spans_of_resource n j = do
  resource ← optional_object members.Resource j
  attributes ← attributes_of resource
  scopes ← scopes_of j
  gather (spans_of_scope n (origin_of attributes)) scopes

-- the value has metrics or log records
abbrev pub is_other_signal : Json → Bool
is_other_signal j =
    is_some (given members.ResourceMetrics j) || is_some (given members.ResourceLogs j)

-- what a value without spans says: nothing, where it has other signals
abbrev pub other_value : Json → Result (List Placed) Why
other_value j = if is_other_signal j then Ok [] else Err (Missing members.ResourceSpans)

-- the spans of a value in line n that has these resources
abbrev pub spans_of_resources : ℕ → Json → List Json → Result (List Placed) Why
spans_of_resources n j resources =
    if is_some (given members.ResourceSpans j) then gather (spans_of_resource n) resources
    else other_value j

-- the spans of a value in line n
unfoldable pub spans_of_value : ℕ → Json → Result (List Placed) Why
spans_of_value n j = do
  resources ← objects members.ResourceSpans j
  spans_of_resources n j resources
