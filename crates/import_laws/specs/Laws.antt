-- Event lines without waits: statements that laws prove.
use Rattle.std.specs.Prelude.{ℕ, ◌≡◌, ◌<◌, ◌^◌, List, [], length, map, true, false}
use Rattle.std.specs.List.{All, list_any}
use Rattle.std.specs.Str.{bytes_eq}
use Rattle.event_lines.specs.declared.line.Line.{Line}
use Rattle.event_lines.specs.declared.line.Line.TheVariants.{Control, Event}
use Rattle.event_rewrite.specs.TaskLines.{task_events}
use Rattle.event_rewrite.specs.WithoutWaits.{without_waits}
use Rattle.task_pieces.specs.PieceNames.{piece_name}
use Rattle.task_pieces.specs.Pieces.{ends_wait}

-- two pieces of tasks of an input have one name only if they are one piece of one task; the first
-- piece has the name of its task, so no other piece has the name of a task
abbrev pub NamesOfPiecesDiffer : Type 0
NamesOfPiecesDiffer = (tasks : List (List ℕ)) (a b : List ℕ) (m n : ℕ)
    → length tasks < 2 ^ 62 → m < 2 ^ 62 → n < 2 ^ 62 → 0 < m → 0 < n
    → list_any (bytes_eq a) tasks ≡ true → list_any (bytes_eq b) tasks ≡ true
    → piece_name tasks a m ≡ piece_name tasks b n → (a ≡ b) × (m ≡ n)

-- of the lines without waits no event ends a wait
abbrev pub NothingWaits : Type 0
NothingWaits = (lines : List Line) → length lines < 2 ^ 61
    → All (λ event. ends_wait (task_events (without_waits lines)) event ≡ false)
    (task_events (without_waits lines))

-- a line but for its task
abbrev pub without_task : Line → Line
without_task (Event event) = Event (record event { task = [] })
without_task (Control line command) = Control line command

-- there are as many lines, in the same order, and all but the tasks of events stays
abbrev pub AllElseStays : Type 0
AllElseStays = (lines : List Line) → map without_task (without_waits lines) ≡ map without_task lines
