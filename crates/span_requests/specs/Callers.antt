-- Which span called which.
use Rattle.std.specs.Prelude.{ℕ, zero, suc, ◌&&◌, List, Bool, true, false, not}
use Rattle.std.specs.Prelude.{Option, Some, None, is_some, find, length, map, position}
use Rattle.std.specs.List.{list_any}
use Rattle.std.specs.Option.{option_and_then}
use Rattle.std.specs.Str.{bytes_eq}
use Rattle.span_types.specs.declared.span.Span.{Span}
use Rattle.span_types.specs.declared.span_kind.SpanKind.{SpanKind}
use Rattle.span_types.specs.declared.span_kind.SpanKind.TheVariants.{Unspecified, Internal, Server}
use Rattle.span_types.specs.declared.span_kind.SpanKind.TheVariants.{Client, Producer, Consumer}

-- a message is taken from a queue
abbrev pub is_consumer : SpanKind → Bool
is_consumer Unspecified = false
is_consumer Internal = false
is_consumer Server = false
is_consumer Client = false
is_consumer Producer = false
is_consumer Consumer = true

-- the parent, if there is one, has this id
abbrev pub is_parent_id : Option (List ℕ) → List ℕ → Bool
is_parent_id None id = false
is_parent_id (Some parent) id = bytes_eq parent id

-- p is the parent of s: ids are of a trace
abbrev pub is_parent : Span → Span → Bool
is_parent p s = bytes_eq s.trace p.trace && is_parent_id s.parent p.id

-- p called s. What is done with a message from a queue is a request of its own.
abbrev pub is_caller : Span → Span → Bool
is_caller p s = not (is_consumer s.kind) && is_parent p s

module _ (spans : List Span) where
  -- the span that called this one
  abbrev pub caller_of : Span → Option Span
  caller_of s = find (λ p. is_caller p s) spans

  -- the span so many calls above this one
  abbrev pub caller_above : ℕ → Span → Option Span
  caller_above zero s = Some s
  caller_above (suc n) s = option_and_then (caller_above n) (caller_of s)

  -- the parents above a span form a circle: it has a caller as many calls above it as there are spans
  abbrev pub is_endless : Span → Bool
  is_endless s = is_some (caller_above (length spans) s)

  -- the span has a parent, which is not among the spans
  abbrev pub misses_parent : Span → Bool
  misses_parent s = is_some s.parent && not (list_any (λ p. is_parent p s) spans)

  -- the number of the caller: its index among the spans
  abbrev pub caller_number : Span → Option ℕ
  caller_number s = position (λ p. is_caller p s) spans

  -- the number of the caller of each span
  abbrev pub caller_numbers : List (Option ℕ)
  caller_numbers = map caller_number spans
