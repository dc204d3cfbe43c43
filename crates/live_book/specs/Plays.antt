-- What each kind of atomic step tells the seat that makes it.
use Rattle.std.specs.Prelude.{◌≡◌, ℕ, ◌^◌, ◌<◌, ◌≤◌, ◌==◌, MatchBool, Option, Some, List, ◌∷◌}
use mathlib.Core.List.{IsPrefix}
use Rattle.atomic_table.specs.Table.{Step, rest}
use Rattle.live_journal.specs.declared.entry.Entry.{Entry}
use Rattle.live_journal.specs.Journals.{JournalState, journal}
use Rattle.live_book.specs.Histories.{AreOfOneHistory}
use Rattle.live_book.specs.Rule.{CallerSeat, AllBegin}
use Rattle.live_book.specs.Views.{waiting_view, in_turn_view, seeing_view, committed_view}
use Rattle.live_book.specs.Views.{passed_view, told_view, ticket_in, position_count}

abbrev pub BookStep : Type 0
BookStep = Step (Option JournalState)

-- ticket: it is the number found
abbrev pub TicketPlay : BookStep → CallerSeat → ℕ → CallerSeat → Type 0
TicketPlay s before found now = now ≡ (waiting_view before.0 found, before.1)

-- the turn of the ticket held has come: the seat has the slot, whose book has this journal, and
-- the caller's front begins it
pub record TakesBook (before now : CallerSeat) : Type 0 where
  pub found : List Entry
  pub seat : now
      ≡ (
        in_turn_view before.0 found,
        (0, Some (journal before.0.names found)) ∷ before.1,
      )
  pub begins : IsPrefix before.0.front found

-- watch: the turn has come exactly where the ticket held is the one found
abbrev pub WatchPlay : BookStep → CallerSeat → ℕ → CallerSeat → Type 0
WatchPlay s before found now =
    MatchBool (found == ticket_in before.0.stage) (TakesBook before now) (now ≡ before)

-- see: the front is the journal that the watch found
abbrev pub SeePlay : BookStep → CallerSeat → ℕ → CallerSeat → Type 0
SeePlay s before found now = now ≡ (seeing_view before.0, before.1)

-- commit: the front is this journal, of one entry more
abbrev pub CommitPlay : List Entry → BookStep → CallerSeat → ℕ → CallerSeat → Type 0
CommitPlay entries s before found now = now ≡ (committed_view before.0 entries, before.1)

-- the turn is passed on: the slot goes home, and the caller's turns are of one history
pub record PassesOn (before now : CallerSeat) : Type 0 where
  pub seat : now ≡ (passed_view before.0, rest before.1)
  pub history : AreOfOneHistory now.0.history

-- pass: the word found is the ticket held
pub record PassPlay (s : BookStep) (before : CallerSeat) (found : ℕ) (now : CallerSeat) : Type 0 where
  pub served : found ≡ ticket_in before.0.stage
  pub passes : PassesOn before now

-- a load that tells what a caller knows of the rule
pub record Tells (before now : CallerSeat) : Type 0 where
  pub seat : now ≡ (told_view before.0, before.1)
  pub turns : before.0.turns ≤ before.0.all
  pub fits : before.0.turns < 2 ^ 64
  pub once : (position : ℕ) → position_count position before.0 ≤ 1
  pub heard : AllBegin before.0.heard before.0.front
  pub history : AreOfOneHistory before.0.history

abbrev pub TellTurnsPlay : BookStep → CallerSeat → ℕ → CallerSeat → Type 0
TellTurnsPlay s before found now = Tells before now
