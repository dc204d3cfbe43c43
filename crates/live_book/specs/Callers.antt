-- What contracts see of a shared book and of a caller.
use Rattle.std.specs.Prelude.{◌≡◌, ℕ, ◌+◌, ◌-◌, ◌≤◌, List, [], ◌∷◌, ◌++◌}
use Rattle.std.specs.Prelude.{length, take, count_by, ◌==◌}
use mathlib.Core.List.{IsPrefix}
use Rattle.atomic_table.specs.Seated.{TableId}
use Rattle.live_journal.specs.declared.entry.Entry.{Entry}
use Rattle.live_journal.specs.Replays.{IsJournal}
use Rattle.live_book.specs.declared.rule.Knowledge.{Knowledge}
use Rattle.live_book.specs.declared.rule.Turn.{Turn}
use Rattle.live_book.specs.Histories.{AreOfOneHistory, turn}
use Rattle.live_book.specs.Views.{longer}

-- a book: which it is, and the numbers of names and turns at opening
pub record OpenBook : Type 0 where
  pub table_id : TableId
  pub names : ℕ
  pub turns : ℕ

-- a caller between its calls: of which book it is, with the numbers of names and turns at opening;
-- the calls that it may still make, the journal as far as it has seen it, the positions of its own
-- entries, how many turns it had and passed on, and these turns in the order of its calls
pub record CallerState : Type 0 where
  pub table_id : TableId
  pub names : ℕ
  pub all : ℕ
  pub turns : ℕ
  pub front : List Entry
  pub positions : List ℕ
  pub passes : ℕ
  pub history : List Turn

-- a caller with these fields, by what its view knows
abbrev pub caller_of : TableId → Knowledge → CallerState
caller_of table_id k = record {
  table_id = table_id;
  names = k.names;
  all = k.all;
  turns = k.turns;
  front = k.front;
  positions = k.positions;
  passes = k.passes;
  history = k.history;
}

-- the caller of a new book
abbrev pub first_caller : OpenBook → CallerState
first_caller book = record {
  table_id = book.table_id;
  names = book.names;
  all = book.turns;
  turns = book.turns;
  front = [];
  positions = [];
  passes = 0;
  history = [];
}

-- the caller is of this book
pub record IsOfBook (book : OpenBook) (caller : CallerState) : Type 0 where
  pub table_id : caller.table_id ≡ book.table_id
  pub names : caller.names ≡ book.names
  pub all : caller.all ≡ book.turns

-- a caller that has split off a new one with so many turns
pub record SplitsOff (turns : ℕ) (before now new : CallerState) : Type 0 where
  pub left : record before { turns = now.turns } ≡ now
  pub turns_left : now.turns + turns ≡ before.turns
  pub new_is : new ≡ record before { turns = turns; positions = []; passes = 0; history = [] }

-- a caller that has taken in another: turns and passes add up, the other's positions and turns
-- follow, no position stands twice, all turns are of one history, and the front is the longer of
-- the two, which both begin
pub record TakesIn (before other now : CallerState) : Type 0 where
  pub seat : now ≡ record before {
    turns = before.turns + other.turns;
    front = longer before.front other.front;
    positions = before.positions ++ other.positions;
    passes = before.passes + other.passes;
    history = before.history ++ other.history;
  }
  pub own : IsPrefix before.front now.front
  pub others : IsPrefix other.front now.front
  pub once : (position : ℕ) → count_by (λ (p : ℕ). p == position) now.positions ≤ 1
  pub most : now.turns ≤ now.all
  pub one_history : AreOfOneHistory now.history

-- the caller spent one turn and passed it on; its front begins with the front before, and is a
-- journal
pub record HasTurn (before now : CallerState) : Type 0 where
  pub same : record before {
    turns = now.turns;
    front = now.front;
    positions = now.positions;
    passes = now.passes;
    history = now.history;
  } ≡ now
  pub turn : now.turns + 1 ≡ before.turns
  pub pass : now.passes ≡ before.passes + 1
  pub begins : IsPrefix before.front now.front
  pub journal : IsJournal now.front

-- the entries but the last
abbrev pub all_but_last : List Entry → List Entry
all_but_last entries = take (length entries - 1) entries

-- one turn more stands in the caller's history: it found this journal, the whole one, since all the
-- caller's turns are of one history, and left the caller's front; the front before begins it
pub record FindsJournal (found : List Entry) (before now : CallerState) : Type 0 where
  pub ticket : ℕ
  pub turn_is : now.history ≡ before.history ++ turn ticket found now.front ∷ []
  pub one_history : AreOfOneHistory now.history
  pub begins : IsPrefix before.front found

-- in its turn the caller found the entries of its front but the last, and added this one, at the
-- last place of its front
pub record AddsEntry (e : Entry) (before now : CallerState) : Type 0 where
  pub finds : FindsJournal (all_but_last now.front) before now
  pub front : now.front ≡ all_but_last now.front ++ e ∷ []
  pub positions : now.positions ≡ before.positions ++ length (all_but_last now.front) ∷ []

-- in its turn the caller found its front, and added nothing
pub record AddsNothing (before now : CallerState) : Type 0 where
  pub finds : FindsJournal now.front before now
  pub positions : now.positions ≡ before.positions
