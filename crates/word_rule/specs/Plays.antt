-- What each kind of atomic step tells the seat that makes it, and what it makes of the seat.
use Rattle.std.specs.Prelude.{◌≡◌, ℕ, ◌^◌, ◌<◌, ◌≤◌, ◌==◌, true, MatchBool, List, [], ◌++◌, bit_and}
use Rattle.std.specs.Int.{bit_at}
use Rattle.atomic_table.specs.Table.{Step}
use Rattle.word_rows.specs.declared.entries.Entry.{Entry}
use Rattle.word_rows.specs.Changes.{empty_view, next_view, with_reading, left_view, new_view, joined_view}
use Rattle.word_rows.specs.Machine.{entry_at}
use Rattle.word_rule.specs.declared.rule.Plan.{Plan}
use Rattle.word_rule.specs.declared.rule.Knowledge.{Knowledge}
use Rattle.word_rule.specs.Shown.{shows}
use Rattle.word_rule.specs.Histories.{IsClearBetween, IsLoadBetween, KnowsMore, IsOfOneHistory, IsOnePast}
use Rattle.word_rule.specs.Rule.{SeatState}

-- clear: one entry more of the row is cleared, by a step of each history from now on
pub record Clears (plan : Plan) (row : List Entry) (before now : SeatState) : Type 0 where
  pub view : now.0.view ≡ next_view before.0.view row
  pub held : now.1 ≡ before.1
  pub stands :
      IsClearBetween plan.width plan.all before.0.pasts before.0.view row now.0.pasts
  pub more : KnowsMore before.0.pasts now.0.pasts
  pub one : IsOnePast now.0.pasts

abbrev pub ClearPlay : Plan → List Entry → Step (Unit {0}) → SeatState → ℕ → SeatState → Type 0
ClearPlay plan row s before found now = Clears plan row before now

-- a load before a clear: where the word lacks all bits of the next entry already, the entry counts
-- as cleared; else the seat is as it was
abbrev pub SkipPlay : Plan → List Entry → Step (Unit {0}) → SeatState → ℕ → SeatState → Type 0
SkipPlay plan row s before found now =
    MatchBool (bit_and found (entry_at row before.0.view.cleared).mask == 0)
    (Clears plan row before now) (now ≡ before)

-- load: the word and its value are the last reading, by a step of each history from now on, and
-- the value has no bit that the view showed to be cleared
pub record Loads (plan : Plan) (word value : ℕ) (before now : SeatState) : Type 0 where
  pub view : now.0.view ≡ with_reading before.0.view word value
  pub held : now.1 ≡ before.1
  pub shown : (b : ℕ) → b < 64 → shows before.0.view word b ≡ true → bit_at value b ≡ 0
  pub stands :
      IsLoadBetween plan.width plan.all before.0.pasts before.0.view word value now.0.pasts
  pub more : KnowsMore before.0.pasts now.0.pasts
  pub one : IsOnePast now.0.pasts

abbrev pub LoadPlay : Plan → Step (Unit {0}) → SeatState → ℕ → SeatState → Type 0
LoadPlay plan s before found now = Loads plan s.word found before now

-- a load that leaves the seat as it is, which has at most all shares, a number of 32 bits, and what
-- it knows is of one history
pub record TellsOneHistory (plan : Plan) (before now : SeatState) : Type 0 where
  pub same : now ≡ before
  pub most : before.0.view.shares ≤ before.0.view.all
  pub fits : before.0.view.all < 2 ^ 32
  pub one : IsOfOneHistory plan.width plan.all before.0.pasts before.0.view

abbrev pub TellPlay : Plan → Step (Unit {0}) → SeatState → ℕ → SeatState → Type 0
TellPlay plan s before found now = TellsOneHistory plan before now

-- split: both seats know the same pasts
abbrev pub left_knowledge : ℕ → Knowledge → Knowledge
left_knowledge shares k = record { view = left_view shares k.view; pasts = k.pasts }

abbrev pub new_knowledge : ℕ → Knowledge → Knowledge
new_knowledge shares k = record { view = new_view shares k.view; pasts = k.pasts }

-- join: what both knew
abbrev pub joined_knowledge : Knowledge → Knowledge → Knowledge
joined_knowledge k l = record { view = joined_view k.view l.view; pasts = k.pasts ++ l.pasts }

abbrev pub no_knowledge : Knowledge
no_knowledge = record { view = empty_view; pasts = [] }
