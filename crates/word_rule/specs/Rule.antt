-- The rule of a table: what holds between any two atomic steps of any threads.
use Rattle.std.specs.Prelude.{◌≡◌, ℕ, ◌^◌, ◌<◌, ◌⊎◌, Bool, not, ◌==◌, List, length, map}
use mathlib.Core.Option.{some}
use lib.ListN.{get_elem?}
use Rattle.atomic_table.specs.Table.{State, Me}
use Rattle.word_rows.specs.declared.views.View.{View}
use Rattle.word_rows.specs.declared.events.StepEvent.{StepEvent}
use Rattle.word_rows.specs.Accounts.{Each}
use Rattle.word_rows.specs.Changes.{empty_view}
use Rattle.word_rows.specs.Machine.{StepState, HaveRows, after}
use Rattle.word_rule.specs.declared.rule.Plan.{Plan}
use Rattle.word_rule.specs.declared.rule.Knowledge.{Knowledge}
use Rattle.word_rule.specs.Histories.{ArePrefixes}

-- the table as plain data, and one seat of it
abbrev pub TableState : Type 0
TableState = State (Unit {0}) Knowledge

abbrev pub SeatState : Type 0
SeatState = Me (Unit {0}) Knowledge

abbrev pub view_of : Knowledge → View
view_of k = k.view

-- the seat of this view was not joined away: the empty view does not carry the number of all shares
abbrev pub is_seated : View → Bool
is_seated v = not (v.all == 0)

-- the table as a state of the step machine: the seats that were not joined away are live
abbrev pub machine_state : Plan → TableState → StepState
machine_state plan s = record {
  words = s.words;
  all = plan.all;
  views = map view_of s.views;
  live = map is_seated (map view_of s.views);
}

-- the table is the step machine after a list of events, whose rows have the form of a row, and each
-- seat knows only pasts that begin this list
pub record HasHistory (plan : Plan) (s : TableState) : Type 0 where
  pub events : List StepEvent
  pub rows : HaveRows events
  pub stands : (after plan.width plan.all events).0 ≡ machine_state plan s
  pub known : (id : ℕ) (k : Knowledge) → get_elem? s.views id ≡ some k → ArePrefixes k.pasts events
  -- as many words as were planned, a number of shares that fits 32 bits, and each view but an empty
  -- one carries it
  pub width : length s.words ≡ plan.width
  pub fits : plan.all < 2 ^ 32
  pub carried : Each (λ v. (v.all ≡ plan.all) ⊎ (v ≡ empty_view)) (map view_of s.views)
