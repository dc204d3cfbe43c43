-- The order of contexts: each one is followed by all below it, which stand by service, operation and
-- ordinal.
use Rattle.std.specs.Prelude.{ℕ, ◌≡◌, List, Option, None, is_none, filter, map, slice_index_or}
use Rattle.std.specs.Cmp.Lexicographic.{slice_cmp}
use Rattle.std.specs.declared.cmp.Ordering.{Ordering}
use Rattle.std.specs.Ordering.{nat_cmp, ordering_then}
use Rattle.call_trees.specs.Below.{below_all}
use Rattle.call_trees.specs.Orders.{AreInOrder}
use Rattle.call_trees.specs.Walks.{walk_through}
use Rattle.call_contexts.specs.Contexts.{Frame}

-- what contexts below one are ordered by
pub record Title : Type 0 where
  pub service : List ℕ
  pub name : List ℕ
  pub ordinal : ℕ

abbrev pub title_of : Frame → Title
title_of f = record { service = f.service; name = f.name; ordinal = f.ordinal }

abbrev pub title_cmp : Title → Title → Ordering
title_cmp s t = ordering_then (slice_cmp nat_cmp s.service t.service)
    (ordering_then (slice_cmp nat_cmp s.name t.name) (nat_cmp s.ordinal t.ordinal))

-- the contexts above contexts
abbrev pub all_above : List Frame → List (Option ℕ)
all_above contexts = map (λ (f : Frame). f.above) contexts

-- those of these numbers that have none above them
abbrev pub first_of : List (Option ℕ) → List ℕ → List ℕ
first_of above numbers = filter (λ i. is_none (slice_index_or above i None)) numbers

-- the contexts in order, and for each one those right below it, in order
pub record AreOrdered (contexts : List Frame) (order : List ℕ) (below : List (List ℕ)) : Type 0 where
  pub titled : List ℕ
  pub rise : AreInOrder title_cmp (map title_of contexts) titled
  pub lists : below ≡ below_all (all_above contexts) titled
  pub walk : order ≡ walk_through (below_all (all_above contexts) titled)
      (first_of (all_above contexts) titled)
