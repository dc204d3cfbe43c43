-- The steps of calls in one list, each call's up to its end.
use Rattle.std.specs.Prelude.{ℕ, zero, suc, ◌≡◌, ◌+◌, ◌<◌, List, [], ◌∷◌, Bool, true, false, All}
use Rattle.std.specs.Prelude.{length, drop, nat_lt, slice_index}
use Rattle.std.specs.List.{flat_map, list_all}
use Rattle.call_trees.specs.Tables.{table_of}
use Rattle.thread_steps.specs.Steps.{call_of, gone_into}
use Rattle.thread_steps.specs.declared.step.Step.{Step}
use Rattle.thread_steps.specs.declared.step.Step.TheVariants.{Starts, Ends, Forks, Joins}

-- steps up to the first end
abbrev pub until_end : List Step → List Step
until_end [] = []
until_end (Starts i ∷ later) = Starts i ∷ until_end later
until_end (Ends i ∷ later) = Ends i ∷ []
until_end (Forks i ∷ later) = Forks i ∷ until_end later
until_end (Joins i piece ∷ later) = Joins i piece ∷ until_end later

-- some step of these is an end
abbrev pub has_end : List Step → Bool
has_end [] = false
has_end (Starts i ∷ later) = has_end later
has_end (Ends i ∷ later) = true
has_end (Forks i ∷ later) = has_end later
has_end (Joins i piece ∷ later) = has_end later

-- a call that the step starts stands behind this one
abbrev pub starts_behind : ℕ → Step → Bool
starts_behind i (Starts j) = nat_lt i j
starts_behind i (Ends j) = true
starts_behind i (Forks j) = true
starts_behind i (Joins j piece) = true

-- where a walk goes on behind the step at this index, the next place last
abbrev pub next_of : List ℕ → ℕ → Step → List ℕ
next_of firsts at (Starts i) = (at + 1) ∷ slice_index firsts i ∷ []
next_of firsts at (Ends i) = []
next_of firsts at (Forks i) = (at + 1) ∷ []
next_of firsts at (Joins i piece) = (at + 1) ∷ []

module _ (steps : List Step) (firsts : List ℕ) where
  -- the steps of a call itself, up to its end
  abbrev pub row_of : ℕ → List Step
  row_of i = until_end (drop (slice_index firsts i) steps)

  -- each call has its steps, which are of calls with steps, and start those behind it
  pub record AreRows : Type 0 where
    pub within : All (λ s. call_of s < length firsts) steps
    pub ended : (i : ℕ) → i < length firsts → has_end (drop (slice_index firsts i) steps) ≡ true
    pub behind : (i : ℕ) → i < length firsts → list_all (starts_behind i) (row_of i) ≡ true

  -- the steps of a thread that starts with a call, in calls so deep at most
  abbrev pub thread_within : ℕ → ℕ → List Step
  thread_within zero i = []
  thread_within (suc n) i = Starts i ∷ flat_map (gone_into (thread_within n)) (row_of i)

  -- those of each call
  abbrev pub threads_in : List (List Step)
  threads_in = table_of (thread_within (length firsts)) (length firsts)
