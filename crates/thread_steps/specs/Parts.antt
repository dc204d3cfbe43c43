-- The calls of one caller, in order, cut into parts: calls that run beside one another are forked
-- together and joined together, and any other call is a part of its own.
use Rattle.std.specs.Prelude.{ℕ, ◌==◌, ◌&&◌, List, [], ◌∷◌, ◌++◌, Bool, false, max, nat_lt}
use Rattle.std.specs.Prelude.{if◌then◌else◌, slice_index, slice_index_or}
use Rattle.span_calls.specs.declared.call.Call.{Call}
use Rattle.context_forks.specs.Partners.{end_of, start_of}
use Rattle.thread_steps.specs.declared.forking.Forking.{Forking}

-- by calls the numbers of their contexts; by contexts which are forked, and their groups
pub record Grouping : Type 0 where
  pub numbers : List ℕ
  pub forked : List Bool
  pub groups : List ℕ

abbrev pub grouping_of : Forking → Grouping
grouping_of f = record { numbers = f.numbers.now; forked = f.forked.now; groups = f.groups.now }

module _ (grouping : Grouping) where
  -- the call is forked, and the group that it is of
  abbrev pub forks : ℕ → Bool
  forks i = slice_index_or grouping.forked (slice_index grouping.numbers i) false

  abbrev pub group_of : ℕ → ℕ
  group_of i = slice_index grouping.groups (slice_index grouping.numbers i)

  -- both calls are forked, in one group
  abbrev pub fork_together : ℕ → ℕ → Bool
  fork_together i j = forks i && (forks j && group_of i == group_of j)

  -- the part is of the group of this call
  abbrev pub is_part_with : ℕ → List ℕ → Bool
  is_part_with i [] = false
  is_part_with i (j ∷ more) = fork_together i j

module _ (calls : List Call) (grouping : Grouping) where
  -- calls in order, cut into parts, where the last one so far has this first call, these calls and
  -- this end
  abbrev pub cut_from : ℕ → List ℕ → ℕ → List ℕ → List (List ℕ)
  cut_from first part end [] = part ∷ []
  cut_from first part end (i ∷ later) =
      if fork_together grouping first i && nat_lt (start_of calls i) end
      then cut_from first (part ++ i ∷ []) (max end (end_of calls i)) later
      else part ∷ cut_from i (i ∷ []) (end_of calls i) later

  abbrev pub parts_of : List ℕ → List (List ℕ)
  parts_of [] = []
  parts_of (i ∷ later) = cut_from i (i ∷ []) (end_of calls i) later
