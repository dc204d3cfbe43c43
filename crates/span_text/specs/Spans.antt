-- A span, of its parts.
use Rattle.std.specs.Prelude.{ℕ, ◌==◌, List, length, codes, if◌then◌else◌}
use Rattle.span_types.specs.declared.span.Span.{Span}
use Rattle.span_types.specs.declared.span_kind.SpanKind.{SpanKind}
use Rattle.span_text.specs.declared.span_making.Origin as origins
use Rattle.span_text.specs.declared.span_making.SpanIds.{SpanIds}

-- who recorded a span: a service, and the machine whose clock its times are of
pub record Origin : Type 0 where
  pub service : List ℕ
  pub machine : List ℕ

-- the same, by what the references point to
abbrev pub origin_view : origins.Origin → Origin
origin_view o = record { service = o.service.now; machine = o.machine.now }

-- the name of a span; an empty one is unknown
abbrev pub name_or_unknown : List ℕ → List ℕ
name_or_unknown name = if length name == 0 then codes "unknown" else name

-- the span with these ids, of this origin, name, kind, start and end
abbrev pub span_with : SpanIds → Origin → List ℕ → SpanKind → ℕ × ℕ → Span
span_with ids origin name kind times = record {
  trace = ids.trace;
  id = ids.id;
  parent = ids.parent;
  service = origin.service;
  machine = origin.machine;
  name = name_or_unknown name;
  kind = kind;
  start = times.0;
  end = times.1;
}
