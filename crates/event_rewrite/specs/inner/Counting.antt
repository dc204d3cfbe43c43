-- What lines leave behind them.
use Rattle.std.specs.Prelude.{ℕ, ◌+◌, List, [], ◌∷◌}
use Rattle.event_lines.specs.declared.line.Line.{Line}
use Rattle.event_lines.specs.declared.line.Line.TheVariants.{Event, Control}
use Rattle.event_rewrite.specs.TaskLines.{batch_after}

-- how many lines are of events
abbrev pub event_count : List Line → ℕ
event_count [] = 0
event_count (Event event ∷ lines) = event_count lines + 1
event_count (Control line command ∷ lines) = event_count lines

-- the batch after lines
abbrev pub batch_through : ℕ → List Line → ℕ
batch_through batch [] = batch
batch_through batch (Event event ∷ lines) = batch_through batch lines
batch_through batch (Control line command ∷ lines) = batch_through (batch_after batch command) lines
