-- The steps of threads of control: into each call that is not forked and back, and over each part
-- of forked calls by a fork and a join, behind which the thread goes on as a piece of its own. So
-- no segment of a thread is spent waiting for a call.
use Rattle.std.specs.Prelude.{ℕ, zero, suc, ◌+◌, List, [], ◌∷◌, ◌++◌, Some, None}
use Rattle.std.specs.Prelude.{if◌then◌else◌, length, slice_index, slice_index_or}
use Rattle.std.specs.List.{count_by, flat_map, list_any}
use Rattle.span_calls.specs.declared.call.Call.{Call}
use Rattle.span_names.specs.declared.piece.Piece.{Piece}
use Rattle.context_forks.specs.Partners.{last_after}
use Rattle.thread_steps.specs.Parts.{Grouping, forks, group_of, is_part_with, parts_of}
use Rattle.thread_steps.specs.declared.step.Step.{Step}
use Rattle.thread_steps.specs.declared.step.Step.TheVariants.{Starts, Ends, Forks, Joins}

-- the call of a step
abbrev pub call_of : Step → ℕ
call_of (Starts i) = i
call_of (Ends i) = i
call_of (Forks i) = i
call_of (Joins i piece) = i

-- a step, where a thread goes on within a call that starts
abbrev pub gone_into : (ℕ → List Step) → Step → List Step
gone_into within (Starts i) = within i
gone_into within (Ends i) = Ends i ∷ []
gone_into within (Forks i) = Forks i ∷ []
gone_into within (Joins i piece) = Joins i piece ∷ []

module _ (calls : List Call) (grouping : Grouping) (group_numbers : List ℕ) where
  -- the piece in which a caller goes on after a part that begins with this call: under the number
  -- of its group, and unless it is the last part of that group, under which of these it is, from 1
  abbrev pub piece_after : (before later : List (List ℕ)) → ℕ → Piece
  piece_after before later i = record {
    number = slice_index group_numbers (group_of grouping i);
    gap = if list_any (is_part_with grouping i) later
        then Some (1 + count_by (is_part_with grouping i) before) else None;
  }

  -- the steps of a caller over a part: a call that is not forked starts, any other part is forked
  -- and joined
  abbrev pub part_steps : (before later : List (List ℕ)) → List ℕ → List Step
  part_steps before later [] = []
  part_steps before later (i ∷ more) = if forks grouping i
      then Forks i ∷ Joins (last_after calls i more) (piece_after before later i) ∷ []
      else Starts i ∷ []

  abbrev pub steps_over : (before parts : List (List ℕ)) → List Step
  steps_over before [] = []
  steps_over before (part ∷ later) =
      part_steps before later part ++ steps_over (before ++ part ∷ []) later

  -- the steps of a caller of these calls, between its start and its end
  abbrev pub own_steps : List ℕ → List Step
  own_steps below = steps_over [] (parts_of calls grouping below)

module _ (calls : List Call) (below : List (List ℕ)) (grouping : Grouping) (group_numbers : List ℕ) where
  -- the steps of a thread from the start of a call to its end, in calls so deep at most
  abbrev pub steps_within : ℕ → ℕ → List Step
  steps_within zero i = []
  steps_within (suc n) i = Starts i ∷ flat_map (gone_into (steps_within n))
      (own_steps calls grouping group_numbers (slice_index_or below i [])) ++ Ends i ∷ []

  abbrev pub steps_from : ℕ → List Step
  steps_from i = steps_within (length calls) i
