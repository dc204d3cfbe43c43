-- Parts by their groups.
use Rattle.std.specs.Prelude.{ℕ, ◌+◌, ◌==◌, List, [], ◌∷◌, ◌++◌, Option, Some, None, nat_eq}
use Rattle.std.specs.Prelude.{if◌then◌else◌, slice_index}
use Rattle.std.specs.List.{count_by}
use Rattle.std.specs.Option.{option_eq}
use Rattle.thread_steps.specs.Parts.{Grouping, forks, group_of}
use Rattle.thread_steps.specs.declared.parts.Part.{Part}
use Rattle.thread_steps.specs.declared.step.Step.{Step}
use Rattle.thread_steps.specs.declared.step.Step.TheVariants.{Starts, Forks, Joins}

-- the group of a part, if its calls are forked
abbrev pub group_of_part : Grouping → Part → Option ℕ
group_of_part grouping part =
    if forks grouping part.first then Some (group_of grouping part.first) else None

-- which of its group a part is, from 1, unless it is the last of it, or has none: by which it is
-- from both ends
abbrev pub gap_of : Option ℕ → (ordinal left : ℕ) → Option ℕ
gap_of None ordinal left = None
gap_of (Some g) ordinal left = if left == 1 then None else Some ordinal

-- which of its group each part is, by the groups of parts
abbrev pub gaps_over : (before groups : List (Option ℕ)) → List (Option ℕ)
gaps_over before [] = []
gaps_over before (g ∷ later) =
    gap_of g (count_by (option_eq nat_eq g) before + 1) (count_by (option_eq nat_eq g) later + 1)
    ∷ gaps_over (before ++ g ∷ []) later

-- the steps of a caller over a part, with its gap
abbrev pub steps_of_part : Grouping → (group_numbers : List ℕ) → Part → Option ℕ → List Step
steps_of_part grouping group_numbers part gap = if forks grouping part.first
    then Forks part.first ∷ Joins part.last (record {
      number = slice_index group_numbers (group_of grouping part.first);
      gap = gap;
    }) ∷ []
    else Starts part.first ∷ []
