-- Histories: lists of events of the step machine, of which the calls of all threads speak. A past
-- is a list of events that begins the history of a table; a pass knows some pasts.
use Rattle.std.specs.Prelude.{◌≡◌, ℕ, ◌==◌, true, if◌then◌else◌, Ok, List, [], ◌∷◌, ◌++◌, length, take}
use mathlib.Core.Option.{some}
use mathlib.Core.List.{IsPrefix}
use lib.ListN.{get_elem?}
use Rattle.word_rows.specs.declared.entries.Entry.{Entry}
use Rattle.word_rows.specs.declared.views.View.{View}
use Rattle.word_rows.specs.declared.events.StepEvent.{StepEvent}
use Rattle.word_rows.specs.declared.events.StepEvent.TheVariants.{Clear as clear, Load as load, Close as close}
use Rattle.word_rows.specs.declared.replies.Reply.{Reply}
use Rattle.word_rows.specs.declared.replies.Reply.TheVariants.{Cleared, Loaded, Closed}
use Rattle.word_rows.specs.Accounts.{views_clear}
use Rattle.word_rows.specs.Changes.{finished_view, midway_view, readings_from, with_readings}
use Rattle.word_rows.specs.Sound.{IsSound}
use Rattle.word_rows.specs.Machine.{HaveRows, after, step}

-- the history goes on from each of these pasts
abbrev pub ArePrefixes : List (List StepEvent) → List StepEvent → Type 0
ArePrefixes [] history = Unit {0}
ArePrefixes (p ∷ ps) history = IsPrefix p history × ArePrefixes ps history

-- in this history, after each of these pasts, a seat with this view makes this step, and the step
-- machine gives it this reply
pub record HasStep (width all : ℕ) (pasts : List (List StepEvent)) (v : View)
    (ask : ℕ → StepEvent) (reply : Reply) (history : List StepEvent) : Type 0 where
  pub events : List StepEvent
  pub rows : HaveRows events
  pub seat : ℕ
  pub goes_on : ArePrefixes pasts events
  pub has : get_elem? (after width all events).0.views seat ≡ some v
  pub replied : (step (after width all events).0 (ask seat)).1 ≡ Ok reply
  pub stands : IsPrefix (events ++ ask seat ∷ []) history

-- the step stands in each history that goes on from what is known now, after what was known
-- before
abbrev pub IsStepBetween : ℕ → ℕ → List (List StepEvent) → View → (ℕ → StepEvent) → Reply
    → List (List StepEvent) → Type 0
IsStepBetween width all before v ask reply now = (history : List StepEvent)
    → ArePrefixes now history → HasStep width all before v ask reply history

-- the same of the step that clears the next entry of this row; its reply is some value of the word
abbrev pub IsClearBetween : ℕ → ℕ → List (List StepEvent) → View → List Entry
    → List (List StepEvent) → Type 0
IsClearBetween width all before v row now = (old : ℕ)
    × IsStepBetween width all before v (λ seat. clear seat row) (Cleared old) now

-- the same of the step that loads this word; its reply is this value
abbrev pub IsLoadBetween : ℕ → ℕ → List (List StepEvent) → View → ℕ → ℕ
    → List (List StepEvent) → Type 0
IsLoadBetween width all before v word value now =
    IsStepBetween width all before v (λ seat. load seat word) (Loaded value) now

-- each history that goes on from what is known now goes on from what was known before
abbrev pub KnowsMore : List (List StepEvent) → List (List StepEvent) → Type 0
KnowsMore before now = (history : List StepEvent) → ArePrefixes now history
    → ArePrefixes before history

-- all that is known is one past
abbrev pub IsOnePast : List (List StepEvent) → Type 0
IsOnePast pasts = (history : List StepEvent) × HaveRows history × (pasts ≡ history ∷ [])

-- all that is known is of one history: one that goes on from each of these pasts, and after which a
-- seat has this view
pub record IsOfOneHistory (width all : ℕ) (pasts : List (List StepEvent)) (v : View) : Type 0 where
  pub history : List StepEvent
  pub rows : HaveRows history
  pub goes_on : ArePrefixes pasts history
  pub seat : ℕ
  pub has : get_elem? (after width all history).0.views seat ≡ some v

-- in this history the word was loaded and this value found, and before that some view had cleared
-- this bit: it had offered a row with it, or was offering one
pub record WasCleared (width all : ℕ) (history : List StepEvent) (word value bit : ℕ) : Type 0 where
  pub events : List StepEvent
  pub seat : ℕ
  pub stands : IsPrefix (events ++ load seat word ∷ []) history
  pub replied : (step (after width all events).0 (load seat word)).1 ≡ Ok (Loaded value)
  pub clears : views_clear (after width all events).0.views word bit ≡ true

-- a history that goes on from these pasts, after which the words and all views are sound, and a
-- seat with this view closes and gets these words
pub record EndsWith (width all : ℕ) (pasts : List (List StepEvent)) (v : View)
    (words : List ℕ) : Type 0 where
  pub history : List StepEvent
  pub rows : HaveRows history
  pub seat : ℕ
  pub goes_on : ArePrefixes pasts history
  pub has : get_elem? (after width all history).0.views seat ≡ some v
  pub replied : (step (after width all history).0 (close seat)).1 ≡ Ok (Closed words)
  pub sound : IsSound words all (after width all history).0.views

-- the view when so many entries of this row are cleared
abbrev pub offered_until : View → List Entry → ℕ → View
offered_until v row k =
    if k == 0 then v else (if k == length row then finished_view v row else midway_view v row k)

-- the view when so many of these words are read
abbrev pub read_until : View → List ℕ → ℕ → View
read_until v into k = with_readings v (readings_from 0 (take k into))
