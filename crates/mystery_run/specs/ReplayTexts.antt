-- The printed text of the replay of a file of steps.
use Rattle.std.specs.Prelude.{ℕ, ◌-◌, ◌*◌, ◌/◌, ◌%◌, ◌^◌, List, [], ◌∷◌, map, codes, decimal}
use Rattle.std.specs.Prelude.{Option, Some, None, Result, Ok, Err}
use Rattle.std.specs.List.{concat, range_with_len, zip}
use Rattle.std.specs.Char.{digit_char}
use Rattle.word_rows.specs.declared.events.StepEvent.{StepEvent}
use Rattle.word_rows.specs.declared.events.StepEvent.TheVariants as steps
use Rattle.word_rows.specs.declared.replies.Reply.{Reply}
use Rattle.word_rows.specs.declared.replies.Reply.TheVariants.{Cleared, Loaded, Split, Joined}
use Rattle.word_rows.specs.declared.replies.Reply.TheVariants.{Closed}
use Rattle.word_rows.specs.Machine.{Fault, no_seat, row_open, bad_share, bad_word, shares_out}
use Rattle.word_rows.specs.Machine.{after}
use Rattle.step_core.specs.declared.start.Start.{Start}
use Rattle.step_core.specs.declared.step_file.StepFile.{StepFile}
use Rattle.text_rows.specs.Rows.{row_of}

-- a word of 64 bits as 16 lower-case hexadecimal digits, the four highest bits first
unfoldable pub hex_word : ℕ → List ℕ
hex_word n = map (λ place. digit_char (n / 2 ^ (60 - 4 * place) % 16)) (range_with_len 0 16)

-- the seat that makes a step
abbrev pub seat_of : StepEvent → ℕ
seat_of (steps.Clear seat row) = seat
seat_of (steps.Load seat word) = seat
seat_of (steps.Split seat shares) = seat
seat_of (steps.Join seat other) = seat
seat_of (steps.Close seat) = seat

-- the number of a step besides its seat: a word, a number of shares or another seat; 0 where it has
-- none
abbrev pub operand_of : StepEvent → ℕ
operand_of (steps.Clear seat row) = 0
operand_of (steps.Load seat word) = word
operand_of (steps.Split seat shares) = shares
operand_of (steps.Join seat other) = other
operand_of (steps.Close seat) = 0

-- `opened`, the width and the number of shares
abbrev pub opened_row : Start → List ℕ
opened_row start = row_of (codes "opened" ∷ decimal start.width ∷ decimal start.shares ∷ [])

-- the row of a reply: its name, the seat of the step, and what the reply tells
abbrev pub reply_row : StepEvent → Reply → List ℕ
reply_row step (Cleared old) =
    row_of (codes "cleared" ∷ decimal (seat_of step) ∷ hex_word old ∷ [])
reply_row step (Loaded value) =
    row_of (codes "loaded" ∷ decimal (seat_of step) ∷ decimal (operand_of step)
    ∷ hex_word value ∷ [])
reply_row step (Split seat) =
    row_of (codes "split" ∷ decimal (seat_of step) ∷ decimal seat ∷ [])
reply_row step Joined =
    row_of (codes "joined" ∷ decimal (seat_of step) ∷ decimal (operand_of step) ∷ [])
reply_row step (Closed words) =
    row_of (codes "closed" ∷ decimal (seat_of step) ∷ map hex_word words)

-- the row of a fault
abbrev pub fault_row : Fault → List ℕ
fault_row (no_seat seat) = row_of (codes "no seat" ∷ decimal seat ∷ [])
fault_row (row_open seat) = row_of (codes "row open" ∷ decimal seat ∷ [])
fault_row (bad_share have asked) = row_of (codes "bad share" ∷ decimal have ∷ decimal asked ∷ [])
fault_row (bad_word word width) = row_of (codes "bad word" ∷ decimal word ∷ decimal width ∷ [])
fault_row (shares_out have all) = row_of (codes "shares out" ∷ decimal have ∷ decimal all ∷ [])

-- the row of a step: that of its reply, or of its fault
abbrev pub step_row : StepEvent × Result Reply Fault → List ℕ
step_row (step, Ok reply) = reply_row step reply
step_row (step, Err fault) = fault_row fault

-- the rows of a replay: one for the start, and one for each step
abbrev pub replay_rows : Option Start → List StepEvent → List (List ℕ)
replay_rows None events = []
replay_rows (Some start) events =
    opened_row start ∷ map step_row (zip events (after start.width start.shares events).1)

-- the text of the replay of a file of steps
abbrev pub replay_text : StepFile → List ℕ
replay_text file = concat (replay_rows file.start file.events)
