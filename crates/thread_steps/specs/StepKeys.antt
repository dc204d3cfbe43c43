-- By what the steps of a thread are told apart: the piece that the thread is in, and what happens
-- in which context. A statement that a law proves.
use Rattle.std.specs.Prelude.{ℕ, ◌≡◌, ◌<◌, List, [], ◌∷◌, Option, Some, None, true, length, slice_get}
use Rattle.std.specs.Prelude.{slice_index, slice_index_or}
use Rattle.span_calls.specs.Calls.{AreBefore}
use Rattle.span_calls.specs.declared.call.Call.{Call}
use Rattle.span_names.specs.declared.piece.Piece.{Piece}
use Rattle.context_forks.specs.Forks.{callers_of}
use Rattle.thread_steps.specs.Parts.{Grouping, forks, group_of}
use Rattle.thread_steps.specs.ThreadCalls.{Stands}
use Rattle.thread_steps.specs.ThreadLaws.{thread_steps}
use Rattle.thread_steps.specs.declared.step.Step.{Step}
use Rattle.thread_steps.specs.declared.step.Step.TheVariants.{Starts, Ends, Forks, Joins}

-- what happens at a step: a call of this context starts or ends, or calls are forked or joined
pub data Happening : Type 0 where
  StartIn : (context : ℕ) → Happening
  EndIn : (context : ℕ) → Happening
  Fork : Happening
  Join : Happening

-- the piece that the thread is in behind a step, and what happens there
pub record StepKey : Type 0 where
  pub piece : Option Piece
  pub happens : Happening

-- the piece that a thread is in behind a step
abbrev pub piece_behind : Option Piece → Step → Option Piece
piece_behind piece (Starts i) = piece
piece_behind piece (Ends i) = piece
piece_behind piece (Forks i) = piece
piece_behind piece (Joins i next) = Some next

module _ (grouping : Grouping) where
  abbrev pub happening_of : Step → Happening
  happening_of (Starts i) = StartIn (slice_index grouping.numbers i)
  happening_of (Ends i) = EndIn (slice_index grouping.numbers i)
  happening_of (Forks i) = Fork
  happening_of (Joins i piece) = Join

  -- the keys of steps from a piece on
  abbrev pub keys_from : Option Piece → List Step → List StepKey
  keys_from piece [] = []
  keys_from piece (step ∷ later) =
      record { piece = piece_behind piece step; happens = happening_of step }
      ∷ keys_from (piece_behind piece step) later

module _ (calls : List Call) (grouping : Grouping) (group_numbers : List ℕ) (head : ℕ) where
  -- the caller forks the call
  abbrev pub IsForkedBy : (i c : ℕ) → Type 0
  IsForkedBy i c = (forks grouping i ≡ true) × (slice_index_or (callers_of calls) i None ≡ Some c)

  -- calls of the thread are told apart by their contexts, callers of one group have one context,
  -- and groups that the thread forks have numbers of their own
  pub record AreToldApart : Type 0 where
    pub contexts : (c d : ℕ) → Stands calls grouping group_numbers head c
        → Stands calls grouping group_numbers head d
        → slice_index grouping.numbers c ≡ slice_index grouping.numbers d → c ≡ d
    pub callers : (i j c d : ℕ) → IsForkedBy i c → IsForkedBy j d
        → group_of grouping i ≡ group_of grouping j
        → slice_index grouping.numbers c ≡ slice_index grouping.numbers d
    pub groups : (i j c d : ℕ) → Stands calls grouping group_numbers head c
        → Stands calls grouping group_numbers head d → IsForkedBy i c → IsForkedBy j d
        → slice_index group_numbers (group_of grouping i)
        ≡ slice_index group_numbers (group_of grouping j)
        → group_of grouping i ≡ group_of grouping j

-- the keys of the steps of the thread that begins with this call
abbrev pub thread_keys : (calls : List Call) → Grouping → (group_numbers : List ℕ) → ℕ → List StepKey
thread_keys calls grouping group_numbers head =
    keys_from grouping None (thread_steps calls grouping group_numbers head)

-- then no two steps of the thread have one key
abbrev pub StepsDiffer : Type 0
StepsDiffer = (calls : List Call) (grouping : Grouping) (group_numbers : List ℕ) → AreBefore calls
    → (head : ℕ) → head < length calls → AreToldApart calls grouping group_numbers head
    → (i j : ℕ) (key : StepKey)
    → slice_get (thread_keys calls grouping group_numbers head) i ≡ Some key
    → slice_get (thread_keys calls grouping group_numbers head) j ≡ Some key
    → i ≡ j
