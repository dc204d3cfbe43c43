-- Overlaps of calls, pair by pair, and what partners tell of them: statements that laws prove.
use Rattle.std.specs.Prelude.{ℕ, ◌≡◌, ◌<◌, ◌&&◌, List, All, Bool, false, Option, Some, None, filter, is_some, length, map}
use Rattle.std.specs.Prelude.{slice_index_or}
use Rattle.std.specs.List.{flat_map, list_any, range_with_len}
use Rattle.call_trees.specs.Below.{is_number}
use Rattle.span_calls.specs.Calls.{AreBefore, StartInOrder}
use Rattle.span_calls.specs.declared.call.Call.{Call}
use Rattle.context_forks.specs.Forks.{callers_of, context_pair, context_pairs, is_linked}
use Rattle.context_forks.specs.Partners.{overlap, partner}
use Rattle.linked_groups.specs.Groups.{groups_of}

-- a call has a partner exactly where it overlaps some earlier call
abbrev pub PartnersTellOverlaps : Type 0
PartnersTellOverlaps = (grace : ℕ) (calls : List Call) (earlier : List ℕ) (i : ℕ)
    → is_some (partner calls grace earlier i) ≡ list_any (λ j. overlap calls grace j i) earlier

-- two calls with these callers have one caller
abbrev pub have_one_caller : Option ℕ → Option ℕ → Bool
have_one_caller None other = false
have_one_caller (Some c) other = is_number c other

-- all pairs of numbers below a bound, the lower one first
abbrev pub number_pairs : ℕ → List (ℕ × ℕ)
number_pairs n = flat_map (λ i. map (λ j. (j, i)) (range_with_len 0 i)) (range_with_len 0 n)

module _ (grace : ℕ) (calls : List Call) where
  -- two calls have one caller, and overlap
  abbrev pub are_beside : (ℕ × ℕ) → Bool
  are_beside p = have_one_caller (slice_index_or (callers_of calls) p.0 None)
      (slice_index_or (callers_of calls) p.1 None) && overlap calls grace p.0 p.1

  -- all pairs of calls of one caller that overlap
  abbrev pub overlaps : List (ℕ × ℕ)
  overlaps = filter are_beside (number_pairs (length calls))

-- contexts are forked as all overlaps tell
abbrev pub ForksAreOfOverlaps : Type 0
ForksAreOfOverlaps = (grace : ℕ) (calls : List Call) (numbers : List ℕ)
    → AreBefore calls → StartInOrder calls → (x : ℕ)
    → is_linked (context_pairs grace calls numbers) x
    ≡ is_linked (map (context_pair numbers) (overlaps grace calls)) x

-- contexts are grouped as all overlaps join them
abbrev pub GroupsAreOfOverlaps : Type 0
GroupsAreOfOverlaps = (grace : ℕ) (calls : List Call) (numbers : List ℕ) (count : ℕ)
    → AreBefore calls → StartInOrder calls → length numbers ≡ length calls
    → All (λ n. n < count) numbers
    → groups_of count (context_pairs grace calls numbers)
    ≡ groups_of count (map (context_pair numbers) (overlaps grace calls))
