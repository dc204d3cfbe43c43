-- A large input from two numbers: the lines of the events of many traces. Times are in
-- microseconds. This is the project's own.
use Rattle.std.specs.Prelude.{ℕ, ◌+◌, ◌*◌, ◌/◌, ◌%◌, max, List, [], ◌∷◌, ◌++◌, codes, decimal}
use Rattle.std.specs.List.{flat_map, join_with_byte, range_with_len}
use Rattle.drill_input.specs.Draws.{draw}

-- when a trace starts: a second after the one before it, and a thousand of them a day
abbrev pub trace_start : ℕ → ℕ
trace_start k = (19800 + k / 1000) * 86400000000 + (k % 1000) * 1000000

-- a member of an object whose value is a text, and one whose value is a number
abbrev pub text_member : List ℕ → List ℕ → List ℕ
text_member name value = codes "\"" ++ name ++ codes "\":\"" ++ value ++ codes "\""

abbrev pub number_member : List ℕ → ℕ → List ℕ
number_member name value = codes "\"" ++ name ++ codes "\":" ++ decimal value

-- an event of a trace: its machine, task, event and time, and the member of its message, if any
pub record Line : Type 0 where
  pub machine : List ℕ
  pub task : List ℕ
  pub event : List ℕ
  pub time : ℕ
  pub message : List (List ℕ)

-- an event with no message
abbrev pub plain_event : List ℕ → List ℕ → List ℕ → ℕ → Line
plain_event machine task event time =
    record { machine = machine; task = task; event = event; time = time; message = [] }

-- an event that sends a message, and one that receives it
abbrev pub sending : List ℕ → List ℕ → List ℕ → ℕ → List ℕ → Line
sending machine task event time message = record (plain_event machine task event time) {
  message = text_member (codes "send") message ∷ [];
}

abbrev pub receipt : List ℕ → List ℕ → List ℕ → ℕ → List ℕ → Line
receipt machine task event time message = record (plain_event machine task event time) {
  message = text_member (codes "recv") message ∷ [];
}

-- the events of a trace that starts at this time, by its five draws
unfoldable pub lines_of : ℕ → ℕ → ℕ → ℕ → ℕ → ℕ → List Line
lines_of b d1 d2 d3 d4 d5 = let e = max d3 d4 in
    plain_event (codes "c") (codes "client") (codes "start") b
    ∷ sending (codes "c") (codes "client") (codes "sent") (b + d1) (codes "q")
    ∷ receipt (codes "w") (codes "web") (codes "got") (b + d1 + 105) (codes "q")
    ∷ plain_event (codes "w") (codes "web") (codes "built") (b + d1 + d2 + 105)
    ∷ plain_event (codes "w") (codes "db") (codes "begin@page") (b + d1 + d2 + 105)
    ∷ plain_event (codes "w") (codes "db") (codes "end") (b + d1 + d2 + d3 + 105)
    ∷ plain_event (codes "w") (codes "ads") (codes "begin@page") (b + d1 + d2 + 105)
    ∷ plain_event (codes "w") (codes "ads") (codes "end") (b + d1 + d2 + d4 + 105)
    ∷ sending (codes "w") (codes "web") (codes "replied") (b + d1 + d2 + e + 105) (codes "p")
    ∷ receipt (codes "c") (codes "render") (codes "shown@page") (b + d1 + d2 + e + 10) (codes "p")
    ∷ plain_event (codes "c") (codes "render") (codes "done") (b + d1 + d2 + e + d5 + 10)
    ∷ []

-- the line of an event of the trace with this index: a JSON object without spaces, and a line feed
abbrev pub line_of : ℕ → Line → List ℕ
line_of k line = codes "{" ++ join_with_byte 44 (
    text_member (codes "request") (codes "r" ++ decimal k)
    ∷ text_member (codes "machine") line.machine
    ∷ text_member (codes "task") line.task
    ∷ text_member (codes "event") line.event
    ∷ number_member (codes "time") line.time
    ∷ line.message) ++ codes "}\n"

-- the lines of the trace with this index, from 0, by draws from a number: five for each trace
abbrev pub lines_of_trace : ℕ → ℕ → List ℕ
lines_of_trace number k = flat_map (line_of k) (lines_of (trace_start k)
    (draw number (5 * k)) (draw number (5 * k + 1)) (draw number (5 * k + 2))
    (draw number (5 * k + 3)) (draw number (5 * k + 4)))

-- the input of this many traces by draws from a number
abbrev pub drill_input : ℕ → ℕ → List ℕ
drill_input number traces = flat_map (lines_of_trace number) (range_with_len 0 traces)
