-- What is promised of the step machine, over the definitions alone.
use Rattle.std.specs.Prelude.{◌≡◌, ℕ, ◌<◌, ◌≤◌, List, ◌++◌, length, IsTrue, Contains}
use mathlib.Core.Option.{some}
use lib.ListN.{get_elem?}
use Rattle.word_rows.specs.declared.entries.Entry.{Entry}
use Rattle.word_rows.specs.declared.views.View.{View}
use Rattle.word_rows.specs.Words.{IsMeet, bit_of, full_words}
use Rattle.word_rows.specs.Accounts.{LackOnly}
use Rattle.word_rows.specs.Changes.{is_idle}
use Rattle.word_rows.specs.Sound.{IsSound}
use Rattle.word_rows.specs.Machine.{StepState, StepEvent, IsSoundState, HasRow, HaveRows, opening_state, step, after}

-- the state at opening is sound
abbrev pub OpeningIsSound : Type 0
OpeningIsSound = (width all : ℕ) → IsSoundState (opening_state width all)

-- an event whose row has the form of a row, with or without a fault, keeps a state sound
abbrev pub StepKeepsSound : Type 0
StepKeepsSound = (s : StepState) (e : StepEvent) → IsSoundState s → HasRow e
    → IsSoundState (step s e).0

-- whatever the width, the number of shares and the events are, as long as each row has the form of
-- a row, the state after them is sound
abbrev pub EventsKeepSound : Type 0
EventsKeepSound = (width all : ℕ) (events : List StepEvent) → HaveRows events
    → IsSoundState (after width all events).0

-- what the one view that has all shares knows of the words
pub record KnowsAll (words : List ℕ) (all : ℕ) (v : View) : Type 0 where
  pub shares : v.shares ≡ all
  pub met : IsMeet (full_words (length words)) v.done words
  pub readings : LackOnly v.readings v.done

-- where a view with no row in progress has all shares, the words are the full ones met by exactly
-- its done rows, and its readings lack only their bits
abbrev pub WholeShareKnowsAll : Type 0
WholeShareKnowsAll = (words : List ℕ) (all : ℕ) (views : List View) (id : ℕ) (v : View)
    → IsSound words all views → get_elem? views id ≡ some v → IsTrue (is_idle v)
    → all ≤ v.shares → KnowsAll words all v

-- along a history there are as many words as at opening
abbrev pub WidthStays : Type 0
WidthStays = (width all : ℕ) (events : List StepEvent)
    → length (after width all events).0.words ≡ width

-- along a history a bit that is 0 stays 0, whatever events follow
abbrev pub ZerosStay : Type 0
ZerosStay = (width all : ℕ) (events more : List StepEvent) (i b : ℕ)
    → i < width
    → bit_of (after width all events).0.words i b ≡ 0
    → bit_of (after width all (events ++ more)).0.words i b ≡ 0

-- this row is a done row of some view
abbrev pub IsDone : List View → List Entry → Type 0
IsDone views row = (id : ℕ) × (v : View) × (get_elem? views id ≡ some v) × Contains v.done row

-- along a history a row that some view has done stays a done row of some view, whatever events
-- follow: where the view is joined away, of the one that took it in
abbrev pub DoneStays : Type 0
DoneStays = (width all : ℕ) (events more : List StepEvent) (row : List Entry)
    → IsDone (after width all events).0.views row
    → IsDone (after width all (events ++ more)).0.views row
