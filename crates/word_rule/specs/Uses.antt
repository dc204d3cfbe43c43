-- What two callers may say of one history.
use Rattle.std.specs.Prelude.{◌≡◌, ℕ, ◌<◌, ◌⊎◌, true, IsTrue, Ok, List, [], ◌∷◌, ◌++◌, length, slice_index}
use mathlib.Core.List.{IsPrefix}
use Rattle.word_rows.specs.declared.entries.Entry.{Entry}
use Rattle.word_rows.specs.declared.events.StepEvent.{StepEvent}
use Rattle.word_rows.specs.declared.events.StepEvent.TheVariants.{Load as load, Close as close}
use Rattle.word_rows.specs.declared.replies.Reply.TheVariants.{Loaded, Closed}
use Rattle.word_rows.specs.Rows.{clears, is_row, rows_clear}
use Rattle.word_rows.specs.Words.{IsMeet, bit_of, full_words}
use Rattle.word_rows.specs.Accounts.{AreZero}
use Rattle.word_rows.specs.Changes.{is_idle, readings_from, with_done, with_readings}
use Rattle.word_rows.specs.Machine.{HaveRows, after, step}
use Rattle.word_rule.specs.Holdings.{Holding, Opened}
use Rattle.word_rule.specs.Histories.{ArePrefixes, IsClearBetween, IsLoadBetween, IsOnePast, KnowsMore, offered_until, read_until}

-- a pass that knew this offered the row and then read these words, and knows that now: between the
-- two it knew one past, by which each entry of the row is cleared and after which each word is
-- loaded; the words lack the row's bits
pub record HasOfferedAndRead (table : Opened) (before : Holding) (row : List Entry)
    (words : List ℕ) (now : Holding) : Type 0 where
  pub table_id : now.table_id ≡ before.table_id
  pub view : now.view ≡ with_readings (with_done before.view row) (readings_from 0 words)
  pub own : AreZero words (clears row)
  pub between : List (List StepEvent)
  pub one : IsOnePast between
  pub cleared : (k : ℕ) → k < length row
      → IsClearBetween table.width table.all before.pasts (offered_until before.view row k) row
      between
  pub loaded : (i : ℕ) → i < length words
      → IsLoadBetween table.width table.all between
      (read_until (with_done before.view row) words i) i (slice_index words i) now.pasts
  pub more : KnowsMore between now.pasts

-- where two passes each offered a row and then read, and one history goes on from what both know,
-- not both miss the other's row: the words of one lack all bits of the row of the other
abbrev pub NotBothMiss : Type 0
NotBothMiss = (table : Opened) (one other one' other' : Holding) (row row' : List Entry)
    (words words' : List ℕ) (history : List StepEvent)
    → IsTrue (is_idle one.view) → IsTrue (is_row row)
    → IsTrue (is_idle other.view) → IsTrue (is_row row')
    → HasOfferedAndRead table one row words one'
    → HasOfferedAndRead table other row' words' other'
    → ArePrefixes one'.pasts history → ArePrefixes other'.pasts history
    → AreZero words' (clears row) ⊎ AreZero words (clears row')

-- in this history the word is loaded, and this value found
pub record HasLoad (width all : ℕ) (history : List StepEvent) (word value : ℕ) : Type 0 where
  pub events : List StepEvent
  pub seat : ℕ
  pub stands : IsPrefix (events ++ load seat word ∷ []) history
  pub replied : (step (after width all events).0 (load seat word)).1 ≡ Ok (Loaded value)

-- one history of the step machine has the loads of both, and its close gives these words
pub record ReadInOneHistory (width all : ℕ) (first second words : List ℕ) : Type 0 where
  pub history : List StepEvent
  pub rows : HaveRows history
  pub of_first : (i : ℕ) → i < length first → HasLoad width all history i (slice_index first i)
  pub of_second : (i : ℕ) → i < length second → HasLoad width all history i (slice_index second i)
  pub seat : ℕ
  pub replied : (step (after width all history).0 (close seat)).1 ≡ Ok (Closed words)

-- what two threads read of which each had offered its row before: both readings stand in one
-- history, each lacks the bits of its own row, one of them also those of the other's, neither lacks
-- a bit of no row, and the words at the end lack exactly the bits of both rows
pub record OfferedInOneHistory (width all : ℕ) (row row' : List Entry)
    (first second words : List ℕ) : Type 0 where
  pub read : ReadInOneHistory width all first second words
  pub own_first : AreZero first (clears row)
  pub own_second : AreZero second (clears row')
  pub not_both_miss : AreZero second (clears row) ⊎ AreZero first (clears row')
  pub only_first : (i b : ℕ) → i < length first → b < 64 → bit_of first i b ≡ 0
      → rows_clear (row ∷ row' ∷ []) i b ≡ true
  pub only_second : (i b : ℕ) → i < length second → b < 64 → bit_of second i b ≡ 0
      → rows_clear (row ∷ row' ∷ []) i b ≡ true
  pub ends : IsMeet (full_words width) (row ∷ row' ∷ []) words
