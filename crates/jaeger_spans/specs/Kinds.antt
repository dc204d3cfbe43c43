-- The kinds of spans: the tag span.kind (OpenTracing, semantic conventions; Jaeger's clients and
-- collectors write it), and a reference that does not wait.
use Rattle.std.specs.Prelude.{ℕ, List, codes, Bool, if◌then◌else◌, Option}
use Rattle.std.specs.Option.{option_map_or}
use Rattle.std.specs.Str.{bytes_eq}
use Rattle.json.specs.Json.{Json}
use Rattle.span_types.specs.declared.span_kind.SpanKind.{SpanKind}
use Rattle.span_types.specs.declared.span_kind.SpanKind.TheVariants.{Unspecified, Internal, Server}
use Rattle.span_types.specs.declared.span_kind.SpanKind.TheVariants.{Client, Producer, Consumer}
use Rattle.span_text.specs.declared.tags.TagForm.TheVariants.{Plain}
use Rattle.span_text.specs.Tags.{tag}

-- the kind with this name; unspecified for any other name
abbrev pub kind_named : List ℕ → SpanKind
kind_named name =
    if bytes_eq name (codes "server") then Server
    else (if bytes_eq name (codes "client") then Client
    else (if bytes_eq name (codes "producer") then Producer
    else (if bytes_eq name (codes "consumer") then Consumer
    else (if bytes_eq name (codes "internal") then Internal else Unspecified))))

-- the kind of a span with these tags; one that follows from its parent is a consumer
abbrev pub kind_of : Bool → List Json → SpanKind
kind_of follows tags =
    if follows then Consumer
    else option_map_or kind_named (tag Plain (codes "span.kind") tags) Unspecified
