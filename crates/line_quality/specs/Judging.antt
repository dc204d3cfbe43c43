-- What judging the lines of a file does.
use Rattle.std.specs.Prelude.{ℕ, ◌≡◌, ◌+◌, ◌≤◌, ◌++◌, List, All, length}
use Rattle.event_lines.specs.Cut.{input_lines}
use Rattle.event_lines.specs.GoodLines.{IsTimely}
use Rattle.event_lines.specs.declared.line.Line.{Line}
use Rattle.line_quality.specs.BadLines.{Finds, bad_lines, count_filled}
use Rattle.line_quality.specs.EventsRead.{events_in, events_read}
use Rattle.line_quality.specs.declared.findings.Findings.{Findings}

-- the lines of the bytes of the file with this index that are neither blank nor bad came behind
-- others, and its bad lines behind those that were found before
pub record Judges (file : ℕ) (bytes : List ℕ) (old new : List Line) (before now : Findings)
    : Type 0 where
  pub events : events_in new ≡ events_in old ++ events_read (input_lines bytes)
  pub bad : Finds before now (bad_lines file bytes)
  pub filled : length new + length (bad_lines file bytes)
      ≡ length old + count_filled (input_lines bytes)
  pub timely : All IsTimely old → All IsTimely new
  pub few : length new + length (bad_lines file bytes) ≤ length old + length bytes + 1
