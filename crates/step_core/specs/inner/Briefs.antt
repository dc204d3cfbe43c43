-- What the machine keeps at hand of a state: all but the lists of rows and readings of its views.
use Rattle.std.specs.Prelude.{◌≡◌, ◌≢◌, ℕ, ◌+◌, ◌≤◌, true, [], map}
use Rattle.word_rows.specs.declared.events.StepEvent.{StepEvent}
use Rattle.word_rows.specs.declared.views.View.{View}
use Rattle.word_rows.specs.Machine.{StepState, IsSoundState, is_live, view_at, next_state}
use Rattle.word_rows.specs.Sound.{IsPartWay}

-- the shares and the row in progress of a view
abbrev pub brief_view : View → View
brief_view v = record v { all = 0; done = []; seen = []; readings = [] }

-- the words, the seats that are live, and the brief views
abbrev pub brief_state : StepState → StepState
brief_state s = record s { views = map brief_view s.views }

-- whatever state the old one is the brief of, the new one is the brief of the state after the event
abbrev pub Follows : StepState → StepEvent → StepState → Type 0
Follows old event new = (s : StepState) → old ≡ brief_state s
    → new ≡ brief_state (next_state s event)

-- what a sound state's live seats have, and a step on the tables needs: of a row in progress some
-- entry is to be cleared, and two seats have no more shares than all
pub record IsSteady (s : StepState) : Type 0 where
  pub progress : (seat : ℕ) → is_live s seat ≡ true → IsPartWay (view_at s seat)
  pub shares : (seat other : ℕ) → seat ≢ other → is_live s seat ≡ true → is_live s other ≡ true
      → (view_at s seat).shares + (view_at s other).shares ≤ s.all

-- the tables are the brief of a state, which is sound
pub record AreBriefOf (tables s : StepState) : Type 0 where
  pub brief : tables ≡ brief_state s
  pub sound : IsSoundState s
