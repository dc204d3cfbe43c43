-- Spans in another order: statements that laws prove.
use Rattle.std.specs.Prelude.{ℕ, ◌≡◌, ◌<◌, List, Option, None, length, map, slice_index_or}
use Rattle.std.specs.Prelude.{IsPermutation}
use Rattle.call_trees.specs.Below.{below_all}
use Rattle.call_trees.specs.Orders.{AreInOrder}
use Rattle.call_trees.specs.Tables.{table_of}
use Rattle.call_trees.specs.Walks.{walk_from}
use Rattle.span_types.specs.declared.span.Span.{Span}
use Rattle.span_requests.specs.Callers.{caller_numbers}
use Rattle.span_requests.specs.Faults.{HaveOwnIds}
use Rattle.span_requests.specs.SpansOnce.{spans_once}
use Rattle.span_calls.specs.Calls.{moments_at, moments_cmp}
use Rattle.span_calls.specs.Seen.{caller_in, span_at}

-- the span with this number, behind the one that called it; these two tell when it is seen
abbrev pub called_span : List Span → ℕ → Option Span × Span
called_span spans i =
    (caller_in spans (slice_index_or (caller_numbers spans) i None), span_at spans i)

-- the numbers of spans in the order of calls
abbrev pub AreInOrderOfCalls : List Span → List ℕ → Type 0
AreInOrderOfCalls spans order =
    AreInOrder moments_cmp (table_of (moments_at spans (caller_numbers spans)) (length spans)) order

-- the calls of a request, so many steps below its entry at most
abbrev pub calls_from : List Span → (order : List ℕ) → ℕ → (entry : ℕ) → List (Option Span × Span)
calls_from spans order steps entry =
    map (called_span spans) (walk_from (below_all (caller_numbers spans) order) steps entry)

-- the calls of a request do not depend on the order of the spans in the input, where no span repeats
-- the id of another one with other content
abbrev pub RequestsKeepTheirCalls : Type 0
RequestsKeepTheirCalls = (input others : List Span) (order other : List ℕ)
    → HaveOwnIds input → HaveOwnIds others → IsPermutation input others
    → AreInOrderOfCalls (spans_once input) order → AreInOrderOfCalls (spans_once others) other
    → (steps entry also : ℕ)
    → entry < length (spans_once input) → also < length (spans_once others)
    → slice_index_or (caller_numbers (spans_once input)) entry None ≡ None
    → slice_index_or (caller_numbers (spans_once others)) also None ≡ None
    → span_at (spans_once input) entry ≡ span_at (spans_once others) also
    → calls_from (spans_once input) order steps entry
    ≡ calls_from (spans_once others) other steps also
