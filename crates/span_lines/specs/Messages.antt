-- The messages of calls. Where a caller makes calls to other machines, the first of them receives
-- the message that the caller sends at its start, and the one that ends last sends the answer,
-- which the caller receives at its end.
use Rattle.std.specs.Prelude.{ℕ, List, [], Bool, true, false, Option, None, filter, if◌then◌else◌}
use Rattle.std.specs.Prelude.{length, map, slice_get, slice_index_or}
use Rattle.span_types.specs.declared.span_kind.SpanKind.{SpanKind}
use Rattle.span_types.specs.declared.span_kind.SpanKind.TheVariants.{Unspecified, Internal, Server}
use Rattle.span_types.specs.declared.span_kind.SpanKind.TheVariants.{Client, Producer, Consumer}
use Rattle.span_types.specs.declared.span.Span.{Span}
use Rattle.call_trees.specs.Tables.{table_of}
use Rattle.span_calls.specs.Seen.{are_apart, no_span}
use Rattle.span_calls.specs.declared.call.Call.{Call}
use Rattle.context_forks.specs.Partners.{last_to_end}

-- a span of this kind sends a message where it calls: a client does, and one that may be a client
abbrev pub sends_calls : SpanKind → Bool
sends_calls Unspecified = true
sends_calls Internal = false
sends_calls Server = false
sends_calls Client = true
sends_calls Producer = false
sends_calls Consumer = false

module _ (calls : List Call) where
  -- the span of a call
  abbrev pub call_span : ℕ → Span
  call_span i = slice_index_or (map (λ (c : Call). c.span.now) calls) i no_span

  -- the caller of a call, if it has one
  abbrev pub caller_of_call : ℕ → Option ℕ
  caller_of_call i = slice_index_or (map (λ (c : Call). c.caller) calls) i None

  -- of these calls of one call those that go to another machine by a message, in order
  abbrev pub far_among : ℕ → List ℕ → List ℕ
  far_among i list = if sends_calls (call_span i).kind
      then filter (λ j. are_apart (call_span i) (call_span j)) list else []

  module _ (below : List (List ℕ)) where
    -- the same of all its calls
    abbrev pub far_calls : ℕ → List ℕ
    far_calls i = far_among i (slice_index_or below i [])

    -- the call that receives what a call sends at its start, and the one whose answer it receives
    -- at its end
    abbrev pub first_far : ℕ → Option ℕ
    first_far i = slice_get (far_calls i) 0

    abbrev pub last_far : ℕ → Option ℕ
    last_far i = last_to_end calls (far_calls i)

    -- both of each call
    abbrev pub all_first_far : List (Option ℕ)
    all_first_far = table_of first_far (length calls)

    abbrev pub all_last_far : List (Option ℕ)
    all_last_far = table_of last_far (length calls)
