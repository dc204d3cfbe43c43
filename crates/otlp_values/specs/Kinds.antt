-- The kinds of spans: OpenTelemetry Protocol 1.x, opentelemetry/proto/trace/v1/trace.proto, enum
-- SpanKind.
use Rattle.std.specs.Prelude.{ℕ, ◌==◌, List, codes, Option, Some, None, option_and_then}
use Rattle.std.specs.Prelude.{Result, Ok, ok_or, if◌then◌else◌}
use Rattle.std.specs.Option.{option_map_or}
use Rattle.std.specs.Str.{bytes_eq}
use Rattle.json.specs.Json.{Json, null, boolean, number, string, array, object}
use Rattle.span_types.specs.declared.span_kind.SpanKind.{SpanKind}
use Rattle.span_types.specs.declared.span_kind.SpanKind.TheVariants.{Unspecified, Internal, Server}
use Rattle.span_types.specs.declared.span_kind.SpanKind.TheVariants.{Client, Producer, Consumer}
use Rattle.span_text.specs.declared.member.Member.TheVariants as members
use Rattle.span_text.specs.declared.why.Why.{Why}
use Rattle.span_text.specs.declared.why.Why.TheVariants.{Bad}
use Rattle.span_text.specs.Members.{given}
use Rattle.span_text.specs.Numbers.{whole_number}

-- the kind with this number
abbrev pub kind_numbered : ℕ → Option SpanKind
kind_numbered n =
    if n == 0 then Some Unspecified
    else (if n == 1 then Some Internal
    else (if n == 2 then Some Server
    else (if n == 3 then Some Client
    else (if n == 4 then Some Producer
    else (if n == 5 then Some Consumer else None)))))

-- the kind with this name
abbrev pub kind_named : List ℕ → Option SpanKind
kind_named name =
    if bytes_eq name (codes "SPAN_KIND_UNSPECIFIED") then Some Unspecified
    else (if bytes_eq name (codes "SPAN_KIND_INTERNAL") then Some Internal
    else (if bytes_eq name (codes "SPAN_KIND_SERVER") then Some Server
    else (if bytes_eq name (codes "SPAN_KIND_CLIENT") then Some Client
    else (if bytes_eq name (codes "SPAN_KIND_PRODUCER") then Some Producer
    else (if bytes_eq name (codes "SPAN_KIND_CONSUMER") then Some Consumer else None)))))

-- the kind that a value is the number or the name of
abbrev pub kind_of : Json → Option SpanKind
kind_of null = None
kind_of (boolean b) = None
kind_of (number text) = option_and_then kind_numbered (whole_number text)
kind_of (string name) = kind_named name
kind_of (array js) = None
kind_of (object ms) = None

-- the kind of a span; unspecified where it is absent
abbrev pub kind_at : Json → Result SpanKind Why
kind_at j =
    option_map_or (λ v. ok_or (kind_of v) (Bad members.Kind)) (given members.Kind j)
    (Ok Unspecified)
