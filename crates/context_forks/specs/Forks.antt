-- Which contexts are forked: those of which some call reaches out of its caller, or overlaps
-- another call of it.
use Rattle.std.specs.Prelude.{ℕ, ◌==◌, ◌&&◌, ◌||◌, List, Bool, Option, None, length, map}
use Rattle.std.specs.Prelude.{slice_index, slice_index_or}
use Rattle.std.specs.List.{list_any, range_with_len}
use Rattle.call_trees.specs.Below.{below_all}
use Rattle.call_trees.specs.Tables.{table_of}
use Rattle.span_calls.specs.declared.call.Call.{Call}
use Rattle.context_forks.specs.Partners.{pairs_of, reaches_out}

-- the callers of calls, and for each call those that it makes, in order
abbrev pub callers_of : List Call → List (Option ℕ)
callers_of calls = map (λ (c : Call). c.caller) calls

abbrev pub calls_below : List Call → List (List ℕ)
calls_below calls = below_all (callers_of calls) (range_with_len 0 (length calls))

-- the contexts of two calls, by the numbers of contexts
abbrev pub context_pair : List ℕ → (ℕ × ℕ) → (ℕ × ℕ)
context_pair numbers p = (slice_index numbers p.0, slice_index numbers p.1)

-- pairs of contexts of which calls overlap
abbrev pub context_pairs : (grace : ℕ) → List Call → (numbers : List ℕ) → List (ℕ × ℕ)
context_pairs grace calls numbers =
    map (context_pair numbers) (pairs_of calls grace (calls_below calls))

-- the context is one of a pair of these
abbrev pub is_linked : List (ℕ × ℕ) → ℕ → Bool
is_linked pairs x = list_any (λ (p : ℕ × ℕ). p.0 == x || p.1 == x) pairs

module _ (grace : ℕ) (calls : List Call) (numbers : List ℕ) where
  -- some call of the context reaches out of its caller
  abbrev pub has_reaching : ℕ → Bool
  has_reaching x = list_any (λ i. slice_index numbers i == x
      && reaches_out calls grace (slice_index_or (callers_of calls) i None) i)
      (range_with_len 0 (length calls))

  -- the context is forked
  abbrev pub is_forked : ℕ → Bool
  is_forked x = has_reaching x || is_linked (context_pairs grace calls numbers) x

  -- whether each of so many contexts is forked
  abbrev pub forked_of : ℕ → List Bool
  forked_of count = table_of is_forked count
