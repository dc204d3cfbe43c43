-- What a caller knows, and what each kind of step makes of it.
use Rattle.std.specs.Prelude.{ℕ, ◌+◌, ◌-◌, Bool, true, false, ◌==◌, nat_lt, if◌then◌else◌}
use Rattle.std.specs.Prelude.{List, [], ◌∷◌, ◌++◌, length, count_by}
use Rattle.live_journal.specs.declared.entry.Entry.{Entry}
use Rattle.live_book.specs.declared.rule.Plan.{Plan}
use Rattle.live_book.specs.declared.rule.Knowledge.{Knowledge}
use Rattle.live_book.specs.declared.rule.Stage.{Stage}
use Rattle.live_book.specs.declared.rule.Stage.TheVariants.{Resting, Waiting, InTurn, Seeing}
use Rattle.live_book.specs.declared.rule.Turn.{Turn}
use Rattle.live_book.specs.Histories.{turn, turns_with}

-- the caller of a new book: it has all turns
abbrev pub first_caller_view : Plan → Knowledge
first_caller_view plan = record {
  names = plan.names;
  all = plan.turns;
  turns = plan.turns;
  front = [];
  positions = [];
  passes = 0;
  history = [];
  stage = Resting;
  heard = [];
}

-- what is left of a caller that was joined to another
abbrev pub empty_caller_view : Knowledge
empty_caller_view = first_caller_view (record { names = 0; turns = 0 })

-- this stage holds this ticket
abbrev pub holds : ℕ → Stage → Bool
holds n Resting = false
holds n (Waiting ticket) = ticket == n
holds n (InTurn ticket found) = ticket == n
holds n (Seeing ticket found) = ticket == n

-- this stage holds a ticket
abbrev pub has_ticket : Stage → Bool
has_ticket Resting = false
has_ticket (Waiting ticket) = true
has_ticket (InTurn ticket found) = true
has_ticket (Seeing ticket found) = true

-- the turn has come
abbrev pub is_in_turn : Stage → Bool
is_in_turn Resting = false
is_in_turn (Waiting ticket) = false
is_in_turn (InTurn ticket found) = true
is_in_turn (Seeing ticket found) = true

-- the ticket that a stage holds, or 0
abbrev pub ticket_in : Stage → ℕ
ticket_in Resting = 0
ticket_in (Waiting ticket) = ticket
ticket_in (InTurn ticket found) = ticket
ticket_in (Seeing ticket found) = ticket

-- the journal of the book that was found, where the turn has come
abbrev pub found_in : Stage → List Entry
found_in Resting = []
found_in (Waiting ticket) = []
found_in (InTurn ticket found) = found
found_in (Seeing ticket found) = found

-- how many of the caller's turns had the ticket
abbrev pub had : ℕ → Knowledge → ℕ
had ticket k = turns_with ticket k.history

-- how often the position stands among the caller's
abbrev pub position_count : ℕ → Knowledge → ℕ
position_count position k = count_by (λ (p : ℕ). p == position) k.positions

-- ticket: a turn less, and a ticket
abbrev pub waiting_view : Knowledge → ℕ → Knowledge
waiting_view k ticket = record k { turns = k.turns - 1; stage = Waiting ticket }

-- watch, where the ticket held is the one served: the turn has come, and the book was found with
-- this journal
abbrev pub in_turn_view : Knowledge → List Entry → Knowledge
in_turn_view k found = record k { stage = InTurn (ticket_in k.stage) found }

-- see: the front is the found journal
abbrev pub seeing_view : Knowledge → Knowledge
seeing_view k = record k {
  front = found_in k.stage;
  stage = Seeing (ticket_in k.stage) (found_in k.stage);
}

-- commit: one more entry stands at the end of the front, by the caller
abbrev pub committed_view : Knowledge → List Entry → Knowledge
committed_view k entries =
    record k { front = entries; positions = k.positions ++ length k.front ∷ [] }

-- the turn that a stage is in, which leaves this journal
abbrev pub turn_in : Stage → List Entry → Turn
turn_in stage left = turn (ticket_in stage) (found_in stage) left

-- pass: the ticket is gone, and one turn more was passed on
abbrev pub passed_view : Knowledge → Knowledge
passed_view k = record k {
  stage = Resting;
  passes = k.passes + 1;
  history = k.history ++ turn_in k.stage k.front ∷ [];
}

-- split: so many turns less
abbrev pub left_caller_view : ℕ → Knowledge → Knowledge
left_caller_view turns k = record k { turns = k.turns - turns }

-- split: the new caller has them and the same front
abbrev pub new_caller_view : ℕ → Knowledge → Knowledge
new_caller_view turns k = record {
  names = k.names;
  all = k.all;
  turns = turns;
  front = k.front;
  positions = [];
  passes = 0;
  history = [];
  stage = Resting;
  heard = [];
}

-- the longer of two fronts, the first where they are equally long
abbrev pub longer : List Entry → List Entry → List Entry
longer front other = if nat_lt (length front) (length other) then other else front

-- join: turns and passes add up, positions and histories follow, and the front is the longer one
abbrev pub joined_caller_view : Knowledge → Knowledge → Knowledge
joined_caller_view k l = record k {
  turns = k.turns + l.turns;
  front = longer k.front l.front;
  positions = k.positions ++ l.positions;
  passes = k.passes + l.passes;
  history = k.history ++ l.history;
  heard = k.front ∷ l.front ∷ [];
}

-- a load after a join, which tells that the joined fronts begin the caller's
abbrev pub told_view : Knowledge → Knowledge
told_view k = record k { heard = [] }
