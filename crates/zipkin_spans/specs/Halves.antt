-- Shared spans: client and server record one span under one id (zipkin.io, "Instrumenting a
-- library"; B3 propagation, shared spans). The server's half becomes the child of the
-- client's, with an `s` behind its id, and what the server did is below its half. This renaming is
-- this project's own.
use Rattle.std.specs.Prelude.{ℕ, ◌&&◌, List, [], ◌∷◌, ◌++◌, codes, map, Bool, true, false}
use Rattle.std.specs.Prelude.{option_map, Some, if◌then◌else◌}
use Rattle.std.specs.List.{list_any}
use Rattle.std.specs.Str.{bytes_eq}
use Rattle.span_types.specs.declared.span.Span.{Span}
use Rattle.span_types.specs.declared.span_kind.SpanKind.{SpanKind}
use Rattle.span_types.specs.declared.span_kind.SpanKind.TheVariants.{Unspecified, Internal, Server}
use Rattle.span_types.specs.declared.span_kind.SpanKind.TheVariants.{Client, Producer, Consumer}
use Rattle.span_text.specs.declared.placed.Placed.{Placed}

-- the span is a server's
abbrev pub is_server : SpanKind → Bool
is_server Server = true
is_server Unspecified = false
is_server Internal = false
is_server Client = false
is_server Producer = false
is_server Consumer = false

-- the span is a client's
abbrev pub is_client : SpanKind → Bool
is_client Client = true
is_client Unspecified = false
is_client Internal = false
is_client Server = false
is_client Producer = false
is_client Consumer = false

-- the id of a span among all traces: ids have hexadecimal digits alone
abbrev pub full_id : List ℕ → List ℕ → List ℕ
full_id trace id = trace ++ codes "/" ++ id

-- a span of such a kind has this id among all traces
abbrev pub is_half : (SpanKind → Bool) → List ℕ → Placed → Bool
is_half is_kind full p = is_kind p.span.kind && bytes_eq (full_id p.span.trace p.span.id) full

-- some span of such a kind has it
abbrev pub has_half : (SpanKind → Bool) → List Placed → List ℕ → Bool
has_half is_kind spans full = list_any (is_half is_kind full) spans

-- the span with this id has a half of the client and one of the server
abbrev pub is_shared : List Placed → List ℕ → Bool
is_shared spans full = has_half is_client spans full && has_half is_server spans full

-- the id of a server's half
abbrev pub half_id : List ℕ → List ℕ
half_id id = id ++ codes "s"

-- the id of a parent: of a shared span, its server's half
abbrev pub parent_apart : List Placed → List ℕ → List ℕ → List ℕ
parent_apart spans trace id = if is_shared spans (full_id trace id) then half_id id else id

-- the server's half of a shared span, as the child of the client's
abbrev pub as_half : Span → Span
as_half s = record s { id = half_id s.id; parent = Some s.id }

-- a span that is no such half; where its parent is shared, it is below the server's half
abbrev pub as_child : List Placed → Span → Span
as_child spans s = record s { parent = option_map (parent_apart spans s.trace) s.parent }

-- a span with its ids told apart from those of the other half
abbrev pub span_apart : List Placed → Span → Span
span_apart spans s =
    if is_server s.kind && has_half is_client spans (full_id s.trace s.id) then as_half s
    else as_child spans s

abbrev pub placed_apart : List Placed → Placed → Placed
placed_apart spans p = record { place = p.place; span = span_apart spans p.span }

-- all spans, told apart
abbrev pub apart : List Placed → List Placed
apart spans = map (placed_apart spans) spans
