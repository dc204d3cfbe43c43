-- The step machine: words, the number of shares at opening, and a view for each seat; what each
-- event does to them, which fault it has, and its reply.
use Rattle.std.specs.Prelude.{◌≡◌, ℕ, Bool, true, false, not, ◌||◌, ◌==◌, nat_lt, if◌then◌else◌, Option, Some, None, Result, Ok, Err, List, [], ◌∷◌, ◌++◌, map, length, slice_index, slice_index_or, slice_set}
use Rattle.word_rows.specs.declared.entries.Entry.{Entry}
use Rattle.word_rows.specs.declared.views.View.{View}
pub use Rattle.word_rows.specs.declared.events.StepEvent.{StepEvent}
pub use Rattle.word_rows.specs.declared.events.StepEvent.TheVariants.{Clear as clear, Load as load, Split as split, Join as join, Close as close}
pub use Rattle.word_rows.specs.declared.replies.Reply.{Reply}
pub use Rattle.word_rows.specs.declared.replies.Reply.TheVariants.{Cleared, Loaded, Split, Joined, Closed}
use Rattle.word_rows.specs.Rows.{is_row, below, same_row}
use Rattle.word_rows.specs.Words.{AreWords, full_words, without_entry}
use Rattle.word_rows.specs.Changes.{first_view, empty_view, is_idle, next_view, with_reading, left_view, new_view, joined_view}
use Rattle.word_rows.specs.Sound.{IsSound}

-- seats are numbered from 0 in the order in which they are made, and so are their views; a seat is
-- live until it is joined away or a close succeeds
pub record StepState : Type 0 where
  pub words : List ℕ
  pub all : ℕ
  pub views : List View
  pub live : List Bool

-- the seat; the seat; the shares that it has and those asked; the word and the width; the shares
-- that the seat has and all
pub data Fault : Type 0 where
  no_seat : ℕ → Fault
  row_open : ℕ → Fault
  bad_share : ℕ → ℕ → Fault
  bad_word : ℕ → ℕ → Fault
  shares_out : ℕ → ℕ → Fault

-- all bits are 1, and seat 0 has all shares
abbrev pub opening_state : ℕ → ℕ → StepState
opening_state width all =
    record { words = full_words width; all = all; views = first_view all ∷ []; live = true ∷ [] }

abbrev pub is_live : StepState → ℕ → Bool
is_live s seat = slice_index_or s.live seat false

abbrev pub view_at : StepState → ℕ → View
view_at s seat = slice_index_or s.views seat empty_view

-- the entry with this index in the row
abbrev pub entry_at : List Entry → ℕ → Entry
entry_at row k = slice_index_or row k (record { word = 0; mask = 0 })

-- no row is in progress, or this one is
abbrev pub can_clear : View → List Entry → Bool
can_clear v row = is_idle v || same_row v.row row

-- the first word of the row that is not below the width
abbrev pub first_past : ℕ → List Entry → ℕ
first_past width [] = 0
first_past width (e ∷ es) = if nat_lt e.word width then first_past width es else e.word

-- the first fault of an event, in this order: no seat, a row open, a bad share, a bad word, shares
-- out
abbrev pub fault_of : StepState → StepEvent → Option Fault
fault_of s (clear seat row) =
    if not (is_live s seat) then Some (no_seat seat) else (
    if not (can_clear (view_at s seat) row) then Some (row_open seat) else (
    if (view_at s seat).shares == 0 then Some (bad_share 0 1) else (
    if not (below (length s.words) row)
    then Some (bad_word (first_past (length s.words) row) (length s.words))
    else None)))
fault_of s (load seat word) =
    if not (is_live s seat) then Some (no_seat seat) else (
    if not (is_idle (view_at s seat)) then Some (row_open seat) else (
    if not (nat_lt word (length s.words)) then Some (bad_word word (length s.words)) else None))
fault_of s (split seat shares) =
    if not (is_live s seat) then Some (no_seat seat) else (
    if not (is_idle (view_at s seat)) then Some (row_open seat) else (
    if not (nat_lt shares (view_at s seat).shares)
    then Some (bad_share (view_at s seat).shares shares)
    else None))
fault_of s (join seat other) =
    if not (is_live s seat) then Some (no_seat seat) else (
    if (not (is_live s other) || (seat == other)) then Some (no_seat other) else (
    if not (is_idle (view_at s seat)) then Some (row_open seat) else (
    if not (is_idle (view_at s other)) then Some (row_open other) else None)))
fault_of s (close seat) =
    if not (is_live s seat) then Some (no_seat seat) else (
    if not (is_idle (view_at s seat)) then Some (row_open seat) else (
    if nat_lt (view_at s seat).shares s.all
    then Some (shares_out (view_at s seat).shares s.all)
    else None))

-- the state after an event that has no fault
abbrev pub next_state : StepState → StepEvent → StepState
next_state s (clear seat row) = record s {
  words = without_entry s.words (entry_at row (view_at s seat).cleared);
  views = slice_set s.views seat (next_view (view_at s seat) row);
}
next_state s (load seat word) = record s {
  views = slice_set s.views seat (with_reading (view_at s seat) word (slice_index s.words word));
}
next_state s (split seat shares) = record s {
  views =
      slice_set s.views seat (left_view shares (view_at s seat))
      ++ new_view shares (view_at s seat) ∷ [];
  live = s.live ++ true ∷ [];
}
next_state s (join seat other) = record s {
  views =
      slice_set (slice_set s.views seat (joined_view (view_at s seat) (view_at s other)))
      other empty_view;
  live = slice_set s.live other false;
}
next_state s (close seat) = record s { live = map (λ _. false) s.live }

-- the reply to an event that has no fault
abbrev pub reply_of : StepState → StepEvent → Reply
reply_of s (clear seat row) =
    Cleared (slice_index s.words (entry_at row (view_at s seat).cleared).word)
reply_of s (load seat word) = Loaded (slice_index s.words word)
reply_of s (split seat shares) = Split (length s.views)
reply_of s (join seat other) = Joined
reply_of s (close seat) = Closed s.words

-- a fault is the reply, and changes nothing
abbrev pub outcome : StepState → StepEvent → Option Fault → StepState × Result Reply Fault
outcome s e None = (next_state s e, Ok (reply_of s e))
outcome s e (Some fault) = (s, Err fault)

-- the state after one event, and its reply
abbrev pub step : StepState → StepEvent → StepState × Result Reply Fault
step s e = outcome s e (fault_of s e)

-- the state after a list of events, and one reply for each
abbrev pub steps : StepState → List StepEvent → StepState × List (Result Reply Fault)
steps s [] = (s, [])
steps s (e ∷ es) = let first = step s e in let rest = steps first.0 es in (rest.0, first.1 ∷ rest.1)

-- the state and the replies after an opening with this width and number of shares and then a list
-- of events
abbrev pub after : ℕ → ℕ → List StepEvent → StepState × List (Result Reply Fault)
after width all events = steps (opening_state width all) events

-- a row that is to be cleared has the form of a row
abbrev pub HasRow : StepEvent → Type 0
HasRow (clear seat row) = is_row row ≡ true
HasRow e = Unit {0}

abbrev pub HaveRows : List StepEvent → Type 0
HaveRows [] = Unit {0}
HaveRows (e ∷ es) = HasRow e × HaveRows es

-- the words and views are sound, each word has 64 bits, and each seat has a view
pub record IsSoundState (s : StepState) : Type 0 where
  pub sound : IsSound s.words s.all s.views
  pub bound : AreWords s.words
  pub seats : length s.live ≡ length s.views
