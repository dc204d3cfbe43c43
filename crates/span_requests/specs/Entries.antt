-- The requests of an input. A request is an entry and all that it calls, and what that calls, and so
-- on; an entry is a span that no span calls.
use Rattle.std.specs.Prelude.{ℕ, List, Bool}
use Rattle.std.specs.Prelude.{filter, slice_index_or, is_none, is_some, map, IsPermutation, IsSorted}
use Rattle.std.specs.List.{position_or_len}
use Rattle.std.specs.Cmp.Lexicographic.{slice_cmp}
use Rattle.std.specs.declared.cmp.Ordering.{Ordering}
use Rattle.std.specs.Ordering.{bool_cmp, nat_cmp, ordering_then}
use Rattle.std.specs.Str.{bytes_eq}
use Rattle.span_types.specs.declared.span.Span.{Span}
use Rattle.trace_types.specs.Firsts.{firsts_of}
use Rattle.span_requests.specs.Callers.{caller_of, is_consumer}

-- the order of the entries of a trace: what is done with messages last, what has a parent (which is
-- missing) after what has none, then by start and id
abbrev pub entry_cmp : Span → Span → Ordering
entry_cmp a b =
    ordering_then (bool_cmp (is_consumer a.kind) (is_consumer b.kind))
    (ordering_then (bool_cmp (is_some a.parent) (is_some b.parent))
    (ordering_then (nat_cmp a.start b.start) (slice_cmp nat_cmp a.id b.id)))

module _ (spans : List Span) where
  -- no span called this one
  abbrev pub is_entry : Span → Bool
  is_entry s = is_none (caller_of spans s)

  -- the traces of the spans, each once, in the order of first sight
  abbrev pub traces_of : List (List ℕ)
  traces_of = firsts_of bytes_eq (map (λ (s : Span). s.trace) spans)

  -- where a trace stands among them
  abbrev pub first_sight : List ℕ → ℕ
  first_sight trace = position_or_len (bytes_eq trace) traces_of

  -- the order of requests: by first sight of the trace, and within a trace as above
  abbrev pub request_cmp : Span → Span → Ordering
  request_cmp a b =
      ordering_then (nat_cmp (first_sight a.trace) (first_sight b.trace)) (entry_cmp a b)

  -- the entries of the spans, in order
  pub record AreEntries (entries : List Span) : Type 0 where
    pub all : IsPermutation (filter is_entry spans) entries
    pub sorted : IsSorted request_cmp entries

-- the spans with these numbers; each of them is there
abbrev pub spans_at : List Span → Span → List ℕ → List Span
spans_at spans d numbers = map (λ i. slice_index_or spans i d) numbers
