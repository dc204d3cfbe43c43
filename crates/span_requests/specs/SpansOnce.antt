-- The spans of an input, each once.
use Rattle.std.specs.Prelude.{ℕ, ◌==◌, ◌&&◌, List, Bool, true, false, Option, Some, None}
use Rattle.std.specs.Prelude.{find, map, not}
use Rattle.std.specs.Str.{bytes_eq}
use denote.Ref.{Bor}
use Rattle.span_types.specs.declared.span.Span.{Span}
use Rattle.span_types.specs.declared.span_kind.SpanKind.{SpanKind}
use Rattle.span_types.specs.declared.span_kind.SpanKind.TheVariants.{Unspecified, Internal, Server}
use Rattle.span_types.specs.declared.span_kind.SpanKind.TheVariants.{Client, Producer, Consumer}
use Rattle.trace_types.specs.Firsts.{firsts_of}

-- two spans are of one trace, and have one id there
abbrev pub have_one_id : Span → Span → Bool
have_one_id a b = bytes_eq a.trace b.trace && bytes_eq a.id b.id

-- the number of a kind in OpenTelemetry's protocol
abbrev pub kind_number : SpanKind → ℕ
kind_number Unspecified = 0
kind_number Internal = 1
kind_number Server = 2
kind_number Client = 3
kind_number Producer = 4
kind_number Consumer = 5

-- two spans have one parent, or none
abbrev pub have_one_parent : Option (List ℕ) → Option (List ℕ) → Bool
have_one_parent None None = true
have_one_parent None (Some q) = false
have_one_parent (Some p) None = false
have_one_parent (Some p) (Some q) = bytes_eq p q

-- two spans say the same besides their ids
abbrev pub have_one_content : Span → Span → Bool
have_one_content a b = have_one_parent a.parent b.parent
    && (bytes_eq a.service b.service && (bytes_eq a.machine b.machine && (bytes_eq a.name b.name
    && (kind_number a.kind == kind_number b.kind && (a.start == b.start && a.end == b.end)))))

-- the spans of an input: one that is exported again counts once
abbrev pub spans_once : List Span → List Span
spans_once input = firsts_of have_one_id input

-- the first span with the id of this one
abbrev pub first_with_id : List Span → Span → Option Span
first_with_id spans s = find (have_one_id s) spans

-- the span says something else than this one
abbrev pub says_otherwise : Option Span → Span → Bool
says_otherwise None s = false
says_otherwise (Some first) s = not (have_one_content first s)

-- the span says something else than the first one with its id
abbrev pub repeats_id : List Span → Span → Bool
repeats_id spans s = says_otherwise (first_with_id spans s) s

-- the spans of a list of references
abbrev pub lent_spans : List (Bor Span) → List Span
lent_spans spans = map (λ (s : Bor Span). s.now) spans
