-- The members of the JSON objects that spans are exported in.
use Rattle.std.specs.Prelude.{ℕ, ◌==◌, List, [], ◌∷◌, length, codes, Option, Some, None}
use Rattle.std.specs.Prelude.{option_map, option_and_then}
use Rattle.std.specs.Prelude.{Result, Ok, Err, ok_or, Bool, true, false, if◌then◌else◌}
use Rattle.std.specs.List.{list_all}
use Rattle.std.specs.Option.{option_map_or}
use Rattle.json.specs.Json.{Json, null, boolean, number, string, array, object}
use Rattle.json.specs.Json.{Items, no_items, item, Members}
use Rattle.json.specs.Find.{get, is_null, as_str, as_array}
use Rattle.span_text.specs.declared.member.Member.{Member}
use Rattle.span_text.specs.declared.member.Member.TheVariants as members
use Rattle.span_text.specs.declared.why.Why.{Why}
use Rattle.span_text.specs.declared.why.Why.TheVariants.{Missing, Bad}
use Rattle.span_text.specs.Outcomes.{◌>>=◌}

-- the name of a member
abbrev pub member_name : Member → List ℕ
member_name members.Attributes = codes "attributes"
member_name members.Data = codes "data"
member_name members.Duration = codes "duration"
member_name members.EndTimeUnixNano = codes "endTimeUnixNano"
member_name members.HostName = codes "host.name"
member_name members.Id = codes "id"
member_name members.InstrumentationLibrarySpans = codes "instrumentationLibrarySpans"
member_name members.Ipv4 = codes "ipv4"
member_name members.Key = codes "key"
member_name members.Kind = codes "kind"
member_name members.LocalEndpoint = codes "localEndpoint"
member_name members.Name = codes "name"
member_name members.OperationName = codes "operationName"
member_name members.ParentId = codes "parentId"
member_name members.ParentSpanId = codes "parentSpanId"
member_name members.Processes = codes "processes"
member_name members.ProcessId = codes "processID"
member_name members.RefType = codes "refType"
member_name members.References = codes "references"
member_name members.Resource = codes "resource"
member_name members.ResourceLogs = codes "resourceLogs"
member_name members.ResourceMetrics = codes "resourceMetrics"
member_name members.ResourceSpans = codes "resourceSpans"
member_name members.ScopeSpans = codes "scopeSpans"
member_name members.ServiceName = codes "serviceName"
member_name members.SpanId = codes "spanId"
member_name members.SpanIdOfJaeger = codes "spanID"
member_name members.Spans = codes "spans"
member_name members.StartTime = codes "startTime"
member_name members.StartTimeUnixNano = codes "startTimeUnixNano"
member_name members.StringValue = codes "stringValue"
member_name members.Tags = codes "tags"
member_name members.Timestamp = codes "timestamp"
member_name members.TraceId = codes "traceId"
member_name members.TraceIdOfJaeger = codes "traceID"
member_name members.Value = codes "value"

-- a value that is not null
abbrev pub unless_null : Json → Option Json
unless_null j = if is_null j then None else Some j

-- the value of a member; null counts as absent, and of a name that comes twice the last counts
abbrev pub given : Member → Json → Option Json
given m j = option_and_then unless_null (get (member_name m) j)

-- the value of a member that must be there
abbrev pub required : Member → Json → Result Json Why
required m j = ok_or (given m j) (Missing m)

-- the text that the value of a member is
abbrev pub text_of : Member → Json → Result (List ℕ) Why
text_of m v = ok_or (as_str v) (Bad m)

-- the text of a member that must be there
unfoldable pub required_text : Member → Json → Result (List ℕ) Why
required_text m j = do
  v ← required m j
  text_of m v

-- a text that is not empty
abbrev pub unless_empty : List ℕ → Option (List ℕ)
unless_empty text = if length text == 0 then None else Some text

-- the text of a member; none where it is absent or empty
abbrev pub optional_text : Member → Json → Result (Option (List ℕ)) Why
optional_text m j =
    option_map_or (λ v. text_of m v >>= λ text. Ok (unless_empty text)) (given m j) (Ok None)

abbrev pub is_object : Json → Bool
is_object null = false
is_object (boolean b) = false
is_object (number s) = false
is_object (string s) = false
is_object (array js) = false
is_object (object ms) = true

-- a value that must be an object
abbrev pub object_of : Member → Json → Result (Option Json) Why
object_of m v = if is_object v then Ok (Some v) else Err (Bad m)

-- the object that the value of a member is; none where it is absent
abbrev pub optional_object : Member → Json → Result (Option Json) Why
optional_object m j = option_map_or (object_of m) (given m j) (Ok None)

-- the items of an array, in order
abbrev pub list_of : Items → List Json
list_of no_items = []
list_of (item j js) = j ∷ list_of js

-- the objects of a list of objects
abbrev pub all_objects : Member → List Json → Result (List Json) Why
all_objects m js = if list_all is_object js then Ok js else Err (Bad m)

-- the objects that the value of a member is a list of
abbrev pub objects_of : Member → Json → Result (List Json) Why
objects_of m v = option_map_or (all_objects m) (option_map list_of (as_array v)) (Err (Bad m))

-- the objects of a list; none where the member is absent
abbrev pub objects : Member → Json → Result (List Json) Why
objects m j = option_map_or (objects_of m) (given m j) (Ok [])
