-- The groups of contexts that are forked together, and their numbers in their threads.
use Rattle.std.specs.Prelude.{ℕ, ◌≡◌, ◌≤◌, ◌+◌, ◌==◌, List, [], Bool, true, false, Option, Some, None}
use Rattle.std.specs.Prelude.{filter, length, map, nat_eq, slice_get, slice_index, slice_index_or}
use Rattle.std.specs.List.{flat_map}
use Rattle.trace_types.specs.Firsts.{firsts_of}
use Rattle.call_trees.specs.Ordinals.{ordinals_of}
use Rattle.call_contexts.specs.Contexts.{Frame}
use Rattle.context_names.specs.Bases.{frame_of_number}
use Rattle.context_names.specs.Scattering.{scattered}

-- the forked ones of these contexts
abbrev pub forked_among : List Bool → List ℕ → List ℕ
forked_among forked numbers = filter (λ y. slice_index_or forked y false) numbers

-- two contexts are in one group
abbrev pub are_of_one_group : List ℕ → ℕ → ℕ → Bool
are_of_one_group groups x y = slice_index groups x == slice_index groups y

-- the thread above a context, by the number of the one above it
abbrev pub thread_above : List ℕ → Option ℕ → ℕ → ℕ
thread_above threads None x = x
thread_above threads (Some above) x = slice_index threads above

module _ (contexts : List Frame) (order : List ℕ) (below : List (List ℕ)) (threads : List ℕ) (forked : List Bool) (groups : List ℕ) where
  -- the forked contexts, by the order of the contexts above them
  abbrev pub forked_in_order : List ℕ
  forked_in_order = flat_map (λ x. forked_among forked (slice_index_or below x [])) order

  -- the first one of each group, in this order
  abbrev pub heads : List ℕ
  heads = firsts_of (are_of_one_group groups) forked_in_order

  -- the number of each of these groups among those that its thread forks, from 2
  abbrev pub head_numbers : List ℕ
  head_numbers = map (λ n. n + 1) (ordinals_of nat_eq
      (map (λ x. thread_above threads (frame_of_number contexts x).above x) heads))

  -- by the number of a group: its first context, and its number
  abbrev pub heads_by_group : List ℕ
  heads_by_group = scattered (length groups) (map (slice_index groups) heads) heads

  abbrev pub numbers_by_group : List ℕ
  numbers_by_group = scattered (length groups) (map (slice_index groups) heads) head_numbers

-- the group of each context that is forked below another one has a number, which is at least 2
abbrev pub AreNumbered : List Frame → (forked : List Bool) → (groups numbers : List ℕ) → Type 0
AreNumbered contexts forked groups numbers =
    (x a : ℕ) (f : Frame) → slice_get contexts x ≡ Some f → f.above ≡ Some a
    → slice_index_or forked x false ≡ true → 2 ≤ slice_index numbers (slice_index groups x)
