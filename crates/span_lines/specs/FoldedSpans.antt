-- Spans whose names differ in ids alone, made one.
use Rattle.std.specs.Prelude.{List, map}
use Rattle.span_types.specs.declared.span.Span.{Span}
use Rattle.span_names.specs.Folding.{folded_name}

-- the span, its operation under the one name of all those that differ in ids alone
abbrev pub folded_span : Span → Span
folded_span s = record s { name = folded_name s.name }

-- the spans of an input, each so
abbrev pub folded_spans : List Span → List Span
folded_spans input = map folded_span input
