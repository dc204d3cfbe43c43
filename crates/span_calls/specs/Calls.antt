-- The calls of requests: their spans, each caller before what it calls, which stand in the order in
-- which their caller sees them start.
use Rattle.std.specs.Prelude.{ℕ, ◌≡◌, ◌==◌, ◌++◌, ◌<◌, ◌≤◌, List, Bool, true, Option, Some, None, codes}
use Rattle.std.specs.Prelude.{filter, length, map, position, slice_get, slice_index, slice_index_or, take}
use Rattle.std.specs.Cmp.Lexicographic.{slice_cmp}
use Rattle.std.specs.declared.cmp.Ordering.{Ordering}
use Rattle.std.specs.Option.{option_and_then}
use Rattle.std.specs.Ordering.{nat_cmp, ordering_then}
use Rattle.std.specs.Str.{bytes_eq}
use Rattle.span_types.specs.declared.span.Span.{Span}
use Rattle.call_trees.specs.Below.{below_all}
use Rattle.call_trees.specs.Orders.{AreInOrder}
use Rattle.call_trees.specs.Tables.{table_of}
use Rattle.call_trees.specs.Walks.{walk_through}
use Rattle.span_calls.specs.Seen.{caller_in, seen_end_by, seen_start_by, span_at}
use Rattle.span_calls.specs.declared.call.Call.{Call}

-- what calls are ordered by
pub record Moments : Type 0 where
  pub start : ℕ
  pub end : ℕ
  pub id : List ℕ

-- the order of calls: by start, end and id
abbrev pub moments_cmp : Moments → Moments → Ordering
moments_cmp a b = ordering_then (nat_cmp a.start b.start)
    (ordering_then (nat_cmp a.end b.end) (slice_cmp nat_cmp a.id b.id))

-- the request with this entry is asked for: by its service and its name
abbrev pub is_asked : Option (List ℕ) → Span → Bool
is_asked None e = true
is_asked (Some asked) e = bytes_eq (e.service ++ codes " " ++ e.name) asked

-- what a span that may have a caller is ordered by
abbrev pub moments_by : Option Span → Span → Moments
moments_by caller s = record {
  start = seen_start_by caller s;
  end = seen_end_by caller s;
  id = s.id;
}

-- the numbers of the spans of the requests with these entries: each one, and then all that it calls,
-- in order
pub record AreListed (moments : List Moments) (callers : List (Option ℕ)) (entries numbers : List ℕ) : Type 0 where
  pub order : List ℕ
  pub ordered : AreInOrder moments_cmp moments order
  pub listed : numbers ≡ walk_through (below_all callers order) entries

-- where the caller of the number at this index stands first before it, by the numbers of callers
abbrev pub position_at : List (Option ℕ) → List ℕ → ℕ → Option ℕ
position_at callers numbers at = option_and_then (λ c. position (λ k. k == c) (take at numbers))
    (slice_index_or callers (slice_index numbers at) None)

module _ (spans : List Span) (callers : List (Option ℕ)) where
  -- what the span with this number is ordered by
  abbrev pub moments_at : ℕ → Moments
  moments_at i = moments_by (caller_in spans (slice_index_or callers i None)) (span_at spans i)

  -- the calls are the spans with these numbers
  pub record AreCallsAt (numbers : List ℕ) (calls : List Call) : Type 0 where
    pub told : map (λ (c : Call). c.span.now) calls ≡ map (span_at spans) numbers
    pub called : map (λ (c : Call). c.caller) calls ≡ table_of (position_at callers numbers)
        (length numbers)
    pub starts : map (λ (c : Call). c.start) calls ≡ map (λ i. (moments_at i).start) numbers
    pub ends : map (λ (c : Call). c.end) calls ≡ map (λ i. (moments_at i).end) numbers

  -- the calls of the requests that are asked for, of those with these entries
  pub record AreCalls (asked : Option (List ℕ)) (entries : List ℕ) (calls : List Call) : Type 0 where
    pub numbers : List ℕ
    pub listed : AreListed (table_of moments_at (length spans)) callers
        (filter (λ e. is_asked asked (span_at spans e)) entries) numbers
    pub are : AreCallsAt numbers calls

-- each caller stands before what it calls
abbrev pub AreBefore : List Call → Type 0
AreBefore calls = (i : ℕ) (call : Call) (c : ℕ)
    → slice_get calls i ≡ Some call → call.caller ≡ Some c → c < i

-- what a call calls stands in the order in which the call sees it start
abbrev pub StartInOrder : List Call → Type 0
StartInOrder calls = (i j : ℕ) (a b : Call) (c : ℕ) → i < j → slice_get calls i ≡ Some a
    → slice_get calls j ≡ Some b → a.caller ≡ Some c → b.caller ≡ Some c → a.start ≤ b.start
