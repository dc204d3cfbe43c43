-- What the lines of the files say, and which are bad.
use Rattle.std.specs.Prelude.{ℕ, ◌≡◌, ◌+◌, ◌≤◌, List, [], ◌∷◌, ◌++◌, All, length, map, take, sum_by}
use Rattle.event_lines.specs.GoodLines.{IsTimely}
use Rattle.event_lines.specs.declared.line.Line.{Line}
use Rattle.line_clean.specs.Lines.{lines_read}
use Rattle.line_quality.specs.BadLines.{bad_lines, count_filled, most_kept, why_of}
use Rattle.line_quality.specs.EventsRead.{events_in, events_read}
use Rattle.line_quality.specs.declared.bad_line.BadLine.{BadLine}
use Rattle.line_quality.specs.declared.findings.Findings.{Findings}
use Rattle.mystery_io.specs.Readings.{Reading}

-- the bad lines of files, of which the first has this index
abbrev pub bad_lines_after : ℕ → List Reading → List BadLine
bad_lines_after file [] = []
bad_lines_after file (r ∷ readings) = bad_lines file r.bytes ++ bad_lines_after (file + 1) readings

-- the bad lines of the files that were read
abbrev pub bad_lines_read : List Reading → List BadLine
bad_lines_read readings = bad_lines_after 0 readings

-- how many bytes the files have together
abbrev pub size_given : List Reading → ℕ
size_given readings = sum_by (λ (r : Reading). length r.bytes) readings

-- these are the lines of the files that are neither blank nor bad, as far as their events go, and
-- what was found of the bad ones
pub record AreJudged (readings : List Reading) (lines : List Line) (findings : Findings)
    : Type 0 where
  pub events : events_in lines ≡ events_read (lines_read readings)
  pub first : findings.first.items ≡ take most_kept (bad_lines_read readings)
  pub reasons : findings.reasons.items ≡ map why_of (bad_lines_read readings)
  pub filled : length lines + length findings.reasons.items ≡ count_filled (lines_read readings)
  pub timely : All IsTimely lines
  pub few : length lines + length findings.reasons.items ≤ size_given readings + length readings
