-- The kinds of spans: Zipkin API v2 (zipkin.io, zipkin2-api.yaml), Span, kind. A span without a kind
-- is local.
use Rattle.std.specs.Prelude.{ℕ, List, codes, Option, Some, None, Result, Ok, ok_or, if◌then◌else◌}
use Rattle.std.specs.Option.{option_map_or}
use Rattle.std.specs.Str.{bytes_eq}
use Rattle.json.specs.Json.{Json}
use Rattle.span_types.specs.declared.span_kind.SpanKind.{SpanKind}
use Rattle.span_types.specs.declared.span_kind.SpanKind.TheVariants.{Internal, Server}
use Rattle.span_types.specs.declared.span_kind.SpanKind.TheVariants.{Client, Producer, Consumer}
use Rattle.span_text.specs.declared.member.Member.TheVariants as members
use Rattle.span_text.specs.declared.why.Why.{Why}
use Rattle.span_text.specs.declared.why.Why.TheVariants.{Bad}
use Rattle.span_text.specs.Members.{optional_text}
use Rattle.span_text.specs.Outcomes.{◌>>=◌}

-- the kind with this name
abbrev pub kind_named : List ℕ → Option SpanKind
kind_named name =
    if bytes_eq name (codes "SERVER") then Some Server
    else (if bytes_eq name (codes "CLIENT") then Some Client
    else (if bytes_eq name (codes "PRODUCER") then Some Producer
    else (if bytes_eq name (codes "CONSUMER") then Some Consumer else None)))

-- the kind of a span
unfoldable pub kind_at : Json → Result SpanKind Why
kind_at j = do
  name ← optional_text members.Kind j
  option_map_or (λ text. ok_or (kind_named text) (Bad members.Kind)) name (Ok Internal)
