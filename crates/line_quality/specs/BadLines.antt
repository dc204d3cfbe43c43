-- The bad lines of a file.
use Rattle.std.specs.Prelude.{ℕ, ◌≡◌, ◌++◌, List, [], ◌∷◌, filter, length, map, take, Result, Ok, Err, not}
use Rattle.std.specs.List.{flat_map}
use Rattle.event_lines.specs.Cut.{input_lines, is_blank_line}
use Rattle.event_lines.specs.InputLines.{numbered_lines}
use Rattle.event_lines.specs.LineResults.{line_result}
use Rattle.event_lines.specs.declared.line.Line.{Line}
use Rattle.event_lines.specs.declared.why.Why.{Why}
use Rattle.line_quality.specs.declared.bad_line.BadLine.{BadLine}
use Rattle.line_quality.specs.declared.findings.Findings.{Findings}
use Rattle.line_quality.specs.Members.{member_at_fault}

-- the bad line that a numbered line of the file with this index is, by what it says
abbrev pub bad_said : ℕ → ℕ → List ℕ → Result Line Why → List BadLine
bad_said file number line (Ok good) = []
bad_said file number line (Err why) =
    record { file = file; line = number; why = why; member = member_at_fault why line } ∷ []

-- the same, by the line
abbrev pub bad_of : ℕ → ℕ × List ℕ → List BadLine
bad_of file line = bad_said file line.0 line.1 (line_result line.0 line.1)

-- the bad ones of lines that are numbered from n on; blank lines are counted, and none is bad
abbrev pub bad_lines_from : ℕ → ℕ → List (List ℕ) → List BadLine
bad_lines_from file n lines = flat_map (bad_of file) (numbered_lines n lines)

-- the bad lines of the bytes of the file with this index, in their order
abbrev pub bad_lines : ℕ → List ℕ → List BadLine
bad_lines file bytes = bad_lines_from file 1 (input_lines bytes)

-- how many lines are not blank
abbrev pub count_filled : List (List ℕ) → ℕ
count_filled lines = length (filter (λ line. not (is_blank_line line)) lines)

-- the first reason that holds of a bad line
abbrev pub why_of : BadLine → Why
why_of bad = bad.why

-- how many bad lines are kept: the first hundred
abbrev pub most_kept : ℕ
most_kept = 100

-- these bad lines were found: the first of all are kept, and the reasons of all
pub record Finds (old new : Findings) (bads : List BadLine) : Type 0 where
  pub first : new.first.items ≡ take most_kept (old.first.items ++ bads)
  pub reasons : new.reasons.items ≡ old.reasons.items ++ map why_of bads
