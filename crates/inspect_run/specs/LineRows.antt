-- The rows on lines.
use Rattle.std.specs.Prelude.{ℕ, ◌==◌, ◌++◌, List, [], ◌∷◌, Bool, codes, decimal, length, map}
use Rattle.std.specs.Prelude.{if◌then◌else◌, slice_index_or, take}
use Rattle.std.specs.List.{count_by, flat_map}
use Rattle.std.specs.Str.{bytes_eq}
use Rattle.event_lines.specs.Reasons.{why_text}
use Rattle.event_lines.specs.declared.why.Why.{Why}
use Rattle.event_lines.specs.declared.why.Why.TheVariants.{NotJson, Missing, WrongKind, OutOfRange}
use Rattle.event_lines.specs.declared.why.Why.TheVariants.{BadText, UnknownCommand}
use Rattle.line_clean.specs.Lines.{lines_read}
use Rattle.line_quality.specs.BadLines.{count_filled, most_kept, why_of}
use Rattle.line_quality.specs.EventsRead.{events_read}
use Rattle.line_quality.specs.Members.{member_name}
use Rattle.line_quality.specs.declared.bad_line.BadLine.{BadLine}
use Rattle.mystery_io.specs.Readings.{Reading}
use Rattle.inspect_run.specs.Judging.{bad_lines_read}
use Rattle.inspect_run.specs.Rows.{no_example, row_text, shown}
use Rattle.inspect_run.specs.declared.level.Level.TheVariants.{Fine, Warn}

-- the reasons, in the order in which they are printed
abbrev pub all_reasons : List Why
all_reasons = NotJson ∷ Missing ∷ WrongKind ∷ OutOfRange ∷ BadText ∷ UnknownCommand ∷ []

-- a reason is this one: it is printed alike
abbrev pub is_reason : Why → Why → Bool
is_reason why other = bytes_eq (why_text other) (why_text why)

-- how often a reason stands among reasons
abbrev pub count_reason : List Why → Why → ℕ
count_reason reasons why = count_by (is_reason why) reasons

-- how many lines are event lines, of those that are not blank: a warning where there is none
abbrev pub event_row : (events filled : ℕ) → List ℕ
event_row events filled =
    row_text (codes "lines") (if events == 0 then Warn else Fine) events filled no_example
    (codes "event lines")

-- how many lines are bad for one reason, where some are
abbrev pub reason_row : (filled : ℕ) → Why → (count : ℕ) → List ℕ
reason_row filled why count =
    if count == 0 then []
    else row_text (codes "lines") Warn count filled no_example (why_text why)

-- a bad line: its file and its number in it, and the reason and the member at fault
unfoldable pub bad_place : List (List ℕ) → BadLine → List ℕ
bad_place names bad =
    codes "bad\twarn\t" ++ shown (slice_index_or names bad.file []) ++ codes "\t"
    ++ decimal bad.line ++ codes "\t"

unfoldable pub bad_cause : BadLine → List ℕ
bad_cause bad = why_text bad.why ++ codes "\t" ++ member_name bad.member ++ codes "\n"

abbrev pub bad_row : List (List ℕ) → BadLine → List ℕ
bad_row names bad = bad_place names bad ++ bad_cause bad

-- the rows of so many events among so many lines that are not blank, and of bad ones: their
-- reasons, and the first of them
abbrev pub rows_of_lines : List (List ℕ) → (events filled : ℕ) → List Why → List BadLine → List ℕ
rows_of_lines names events filled reasons first =
    event_row events filled
    ++ flat_map (λ why. reason_row filled why (count_reason reasons why)) all_reasons
    ++ flat_map (bad_row names) first

-- the rows on the lines of the files with these names that were read
abbrev pub line_rows : List (List ℕ) → List Reading → List ℕ
line_rows names readings =
    rows_of_lines names (length (events_read (lines_read readings)))
    (count_filled (lines_read readings)) (map why_of (bad_lines_read readings))
    (take most_kept (bad_lines_read readings))
