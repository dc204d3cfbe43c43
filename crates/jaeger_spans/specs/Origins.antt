-- Who recorded a span: Jaeger (jaegertracing.io), model/json/model.go: Trace, Process.
use Rattle.std.specs.Prelude.{ℕ, List, codes, unwrap_or, Result, Ok, Err, ok_or, if◌then◌else◌}
use Rattle.std.specs.Prelude.{option_and_then}
use Rattle.json.specs.Json.{Json}
use Rattle.json.specs.Find.{get}
use Rattle.span_text.specs.declared.member.Member.{Member}
use Rattle.span_text.specs.declared.member.Member.TheVariants as members
use Rattle.span_text.specs.declared.why.Why.{Why}
use Rattle.span_text.specs.declared.why.Why.TheVariants.{Bad}
use Rattle.span_text.specs.declared.tags.TagForm.TheVariants.{Plain}
use Rattle.span_text.specs.Members.{required, required_text, optional_object, is_object, objects}
use Rattle.span_text.specs.Members.{unless_null, unless_empty}
use Rattle.span_text.specs.Outcomes.{◌>>=◌}
use Rattle.span_text.specs.Spans.{Origin}
use Rattle.span_text.specs.Tags.{tag}

-- a value that must be an object
abbrev pub as_required_object : Member → Json → Result Json Why
as_required_object m v = if is_object v then Ok v else Err (Bad m)

-- the process with this name, which the span names
abbrev pub process_named : List ℕ → Json → Result Json Why
process_named name processes =
    ok_or (option_and_then unless_null (get name processes)) (Bad members.ProcessId)

-- the process of a span among those of its trace
unfoldable pub process_of : Json → Json → Result Json Why
process_of trace span = do
  found ← required members.Processes trace
  processes ← as_required_object members.Processes found
  name ← required_text members.ProcessId span
  process ← process_named name processes
  as_required_object members.Processes process

-- the service, where it is named
abbrev pub service_named : List ℕ → List ℕ
service_named name = unwrap_or (unless_empty name) (codes "unknown_service")

-- the machine that the tags of a process name, else its service
abbrev pub machine_of : List ℕ → List Json → List ℕ
machine_of service tags =
    unwrap_or (tag Plain (codes "hostname") tags)
    (unwrap_or (tag Plain (codes "ip") tags) service)

-- the service and the machine of a span
unfoldable pub origin_of : Json → Json → Result Origin Why
origin_of trace span = do
  process ← process_of trace span
  name ← required_text members.ServiceName process
  tags ← objects members.Tags process
  Ok (record { service = service_named name; machine = machine_of (service_named name) tags })
