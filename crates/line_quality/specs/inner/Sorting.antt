-- How good lines are sorted out from bad ones.
use Rattle.std.specs.Prelude.{ℕ, ◌≡◌, ◌+◌, ◌<◌, ◌≤◌, ◌++◌, ◌||◌, List, All, Bool, true, drop, is_ok}
use Rattle.std.specs.Prelude.{length}
use Rattle.event_lines.specs.Cut.{input_lines, is_blank_line}
use Rattle.event_lines.specs.GoodLines.{IsTimely}
use Rattle.event_lines.specs.LineResults.{line_result}
use Rattle.event_lines.specs.declared.line.Line.{Line}
use Rattle.line_quality.specs.BadLines.{Finds, bad_lines_from, count_filled}
use Rattle.line_quality.specs.EventsRead.{events_in, events_read}
use Rattle.line_quality.specs.declared.bad_line.BadLine.{BadLine}
use Rattle.line_quality.specs.declared.findings.Findings.{Findings}
use Rattle.line_quality.specs.declared.sorting.Sorted.{Sorted}
use Rattle.line_quality.specs.inner.FirstLines.{Closes}

-- a line is good or blank
abbrev pub is_kept : List ℕ → Bool
is_kept line = is_blank_line line || is_ok (line_result 0 line)

-- all of these are
abbrev pub AreKept : List (List ℕ) → Type 0
AreKept lines = All (λ line. is_kept line ≡ true) lines

-- the text ends lines, none of which is bad
pub record IsClosed (text : List ℕ) : Type 0 where
  pub lines : List (List ℕ)
  pub closes : Closes text lines
  pub kept : AreKept lines

-- of bytes behind so many lines of a file the first ones, up to a bad one, were sorted: the others
-- came to the text
pub record SortsFirst (file number : ℕ) (bytes old new : List ℕ) (before now : Findings)
    (s : Sorted) : Type 0 where
  pub within : s.next ≤ length bytes
  pub some : 0 < length bytes → 0 < s.next
  pub lines : s.lines ≤ s.next
  pub short : length new ≤ length old + s.next
  pub closed : s.next < length bytes → IsClosed new
  pub kept : AreKept (input_lines new)
  pub events : events_read (input_lines old) ++ events_read (input_lines bytes)
      ≡ events_read (input_lines new) ++ events_read (input_lines (drop s.next bytes))
  pub bads : List BadLine
  pub finds : Finds before now bads
  pub bad : bad_lines_from file (number + 1) (input_lines bytes)
      ≡ bads ++ bad_lines_from file (number + s.lines + 1) (input_lines (drop s.next bytes))
  pub filled : count_filled (input_lines old) + count_filled (input_lines bytes)
      ≡ count_filled (input_lines new) + length bads
      + count_filled (input_lines (drop s.next bytes))

-- all lines of the bytes of a file were sorted: those that are not bad came to the text
pub record SortsAll (file : ℕ) (bytes text : List ℕ) (before now : Findings) : Type 0 where
  pub kept : AreKept (input_lines text)
  pub short : length text ≤ length bytes
  pub events : events_read (input_lines bytes) ≡ events_read (input_lines text)
  pub finds : Finds before now (bad_lines_from file 1 (input_lines bytes))
  pub filled : count_filled (input_lines bytes)
      ≡ count_filled (input_lines text) + length (bad_lines_from file 1 (input_lines bytes))

-- the lines of the first bytes of a file were sorted, so many lines: those that are not bad came to
-- the text
pub record IsSorted (file : ℕ) (bytes text : List ℕ) (before now : Findings) (at number : ℕ)
    : Type 0 where
  pub within : at ≤ length bytes
  pub apart : number ≤ at
  pub short : length text ≤ at
  pub closed : at < length bytes → IsClosed text
  pub kept : AreKept (input_lines text)
  pub events : events_read (input_lines bytes)
      ≡ events_read (input_lines text) ++ events_read (input_lines (drop at bytes))
  pub bads : List BadLine
  pub finds : Finds before now bads
  pub bad : bad_lines_from file 1 (input_lines bytes)
      ≡ bads ++ bad_lines_from file (number + 1) (input_lines (drop at bytes))
  pub filled : count_filled (input_lines bytes)
      ≡ count_filled (input_lines text) + length bads + count_filled (input_lines (drop at bytes))

-- the lines of a text, none of which is bad, were appended to lines
pub record Appends (text : List ℕ) (old new : List Line) : Type 0 where
  pub events : events_in new ≡ events_in old ++ events_read (input_lines text)
  pub filled : length new ≡ length old + count_filled (input_lines text)
  pub timely : All IsTimely old → All IsTimely new
