-- Each kind of atomic step that changes a word or a view, and the end of the table, is a step of
-- the step machine; the other loads change nothing.
use Rattle.std.specs.Prelude.{◌≡◌, ◌≢◌, ℕ, ◌^◌, ◌<◌, ◌≤◌, true, false, IsTrue, Ok, List, [], ◌∷◌, ◌++◌, length, map, bit_and, slice_index, slice_set}
use Rattle.std.specs.Int.{bit_not, w64}
use mathlib.Core.Option.{none, some}
use lib.ListN.{get_elem?}
use Rattle.atomic_table.specs.Table.{step as base_step, keeps, stepped}
use Rattle.word_rows.specs.declared.entries.Entry.{Entry}
use Rattle.word_rows.specs.declared.events.StepEvent.TheVariants.{Clear as clear, Load as load, Split as split, Join as join, Close as close}
use Rattle.word_rows.specs.declared.replies.Reply.TheVariants.{Cleared, Loaded, Split, Joined, Closed}
use Rattle.word_rows.specs.Rows.{below}
use Rattle.word_rows.specs.Changes.{is_idle}
use Rattle.word_rows.specs.Sound.{IsSound}
use Rattle.word_rows.specs.Machine.{StepState, step, can_clear, entry_at}
use Rattle.word_rule.specs.declared.rule.Plan.{Plan}
use Rattle.word_rule.specs.declared.rule.Knowledge.{Knowledge}
use Rattle.word_rule.specs.Rule.{TableState, SeatState, HasHistory, machine_state, view_of}
use Rattle.word_rule.specs.Plays.{ClearPlay, SkipPlay, LoadPlay, TellPlay, left_knowledge, new_knowledge, joined_knowledge, no_knowledge}

-- the table with other seats
abbrev pub with_seats : TableState → List Knowledge → TableState
with_seats s seats = record { words = s.words; homes = s.homes; views = seats }

-- the table after a step of this seat, which wrote this value to the word
abbrev pub table_after : TableState → ℕ → SeatState → SeatState → ℕ → ℕ → TableState
table_after s id before now word value = stepped s word value id before.1 now.0 keeps

-- the table meets the rule, and this seat knows this and has a share
pub record IsAt (plan : Plan) (s : TableState) (id : ℕ) (k : Knowledge) : Type 0 where
  pub history : HasHistory plan s
  pub has : get_elem? s.views id ≡ some k
  pub share : 0 < k.view.shares

-- this seat may clear this entry of the row next
pub record MayClear (plan : Plan) (k : Knowledge) (row : List Entry) (e : Entry) : Type 0 where
  pub can : can_clear k.view row ≡ true
  pub below_width : below plan.width row ≡ true
  pub next : entry_at row k.view.cleared ≡ e

-- a table that meets the rule has sound words and views
abbrev pub RuleIsSound : Type 0
RuleIsSound =
    (plan : Plan) (s : TableState)
    → HasHistory plan s
    → IsSound s.words plan.all (map view_of s.views)

-- `fetch_and` with the complement of the entry's mask: the machine clears the entry, and replies
-- with what was found
abbrev pub ClearIsStep : Type 0
ClearIsStep =
    (plan : Plan) (s : TableState) (slots id : ℕ) (before now : SeatState)
    (row : List Entry) (e : Entry) (found : ℕ)
    → IsAt plan s id before.0 → MayClear plan before.0 row e
    → found ≡ slice_index s.words e.word → e.mask < 2 ^ 64
    → ClearPlay plan row (base_step slots e.word (bit_not w64 e.mask) 0 none) before found now
    → step (machine_state plan s) (clear id row)
    ≡ (
      machine_state plan
          (table_after s id before now e.word (bit_and found (bit_not w64 e.mask))),
      Ok (Cleared found),
    )

-- `load`, which writes back what it found, where that lacks all of the entry's bits: the machine
-- clears the entry, and replies with what was found
abbrev pub SkipIsStep : Type 0
SkipIsStep =
    (plan : Plan) (s : TableState) (slots id : ℕ) (before now : SeatState)
    (row : List Entry) (e : Entry) (found : ℕ)
    → IsAt plan s id before.0 → MayClear plan before.0 row e
    → found ≡ slice_index s.words e.word → bit_and found e.mask ≡ 0
    → SkipPlay plan row (base_step slots e.word 0 0 none) before found now
    → step (machine_state plan s) (clear id row)
    ≡ (machine_state plan (table_after s id before now e.word found), Ok (Cleared found))

-- the same load where the word has a bit of the entry: nothing changes, and there is no event
abbrev pub LookIsNoStep : Type 0
LookIsNoStep =
    (plan : Plan) (s : TableState) (slots id : ℕ) (before now : SeatState)
    (row : List Entry) (e : Entry) (found : ℕ)
    → IsAt plan s id before.0 → MayClear plan before.0 row e
    → found ≡ slice_index s.words e.word → bit_and found e.mask ≢ 0
    → SkipPlay plan row (base_step slots e.word 0 0 none) before found now
    → table_after s id before now e.word found ≡ s

-- `load`, which writes back what it found: the machine loads the word, and replies with what was
-- found
abbrev pub LoadIsStep : Type 0
LoadIsStep =
    (plan : Plan) (s : TableState) (slots id word : ℕ) (before now : SeatState) (found : ℕ)
    → IsAt plan s id before.0 → IsTrue (is_idle before.0.view) → word < plan.width
    → found ≡ slice_index s.words word
    → LoadPlay plan (base_step slots word 0 0 none) before found now
    → step (machine_state plan s) (load id word)
    ≡ (machine_state plan (table_after s id before now word found), Ok (Loaded found))

-- the load by which a seat learns that it has at most all shares: nothing changes, and there is no
-- event
abbrev pub TellIsNoStep : Type 0
TellIsNoStep =
    (plan : Plan) (s : TableState) (slots id word : ℕ) (before now : SeatState) (found : ℕ)
    → IsAt plan s id before.0 → found ≡ slice_index s.words word
    → TellPlay plan (base_step slots word 0 0 none) before found now
    → table_after s id before now word found ≡ s

-- `split_seat`: the machine splits off the shares, and the new seat is the next one
abbrev pub SplitIsStep : Type 0
SplitIsStep =
    (plan : Plan) (s : TableState) (id shares : ℕ) (k : Knowledge) (seats : List Knowledge)
    → IsAt plan s id k → IsTrue (is_idle k.view) → shares < k.view.shares
    → seats ≡ slice_set s.views id (left_knowledge shares k) ++ new_knowledge shares k ∷ []
    → step (machine_state plan s) (split id shares)
    ≡ (machine_state plan (with_seats s seats), Ok (Split (length s.views)))

-- `join_seat`: the machine joins the other seat, which is live no more
abbrev pub JoinIsStep : Type 0
JoinIsStep =
    (plan : Plan) (s : TableState) (id other : ℕ) (k l : Knowledge) (seats : List Knowledge)
    → IsAt plan s id k → get_elem? s.views other ≡ some l → l.view.all ≡ plan.all → other ≢ id
    → IsTrue (is_idle k.view) → IsTrue (is_idle l.view)
    → seats ≡ slice_set (slice_set s.views id (joined_knowledge k l)) other no_knowledge
    → step (machine_state plan s) (join id other)
    ≡ (machine_state plan (with_seats s seats), Ok Joined)

-- no seat is live
abbrev pub closed_state : StepState → StepState
closed_state m = record m { live = map (λ _. false) m.live }

-- `close_with`: the machine closes, and replies with the words
abbrev pub CloseIsStep : Type 0
CloseIsStep =
    (plan : Plan) (s : TableState) (id : ℕ) (k : Knowledge)
    → IsAt plan s id k → IsTrue (is_idle k.view) → plan.all ≤ k.view.shares
    → step (machine_state plan s) (close id)
    ≡ (closed_state (machine_state plan s), Ok (Closed s.words))
