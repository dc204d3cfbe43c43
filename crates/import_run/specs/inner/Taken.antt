-- What is taken of files, one after another.
use Rattle.std.specs.Prelude.{ℕ, ◌≡◌, ◌+◌, ◌≤◌, List, length, sum_by, Result, Ok, Err}
use Rattle.std.specs.Prelude.{⊤}
use Rattle.event_lines.specs.InputLines.{LineFault}
use Rattle.event_lines.specs.LineParts.{lines_of_runs}
use Rattle.event_lines.specs.declared.line.Line.{Line}
use Rattle.span_text.specs.declared.placed.Fault.{Fault}
use Rattle.span_text.specs.declared.placed.Placed.{Placed}
use Rattle.span_files.specs.InputSpans.{InputSpans, IsAppended, input_said}
use Rattle.span_files.specs.declared.file_spans.FileSpans.{FileSpans}
use Rattle.span_files.specs.declared.span_form.SpanForm.{SpanForm}
use Rattle.import_run.specs.Endings.{HaveFault}
use Rattle.import_run.specs.Inputs.{files_said}
use Rattle.import_run.specs.declared.form.Form.{Form}
use Rattle.import_run.specs.declared.form.Form.TheVariants as forms
use Rattle.import_run.specs.declared.input.Input.{Input}
use Rattle.import_run.specs.declared.input.Input.TheVariants.{Lines, Spans}
use Rattle.import_run.specs.declared.span_reason.SpanReason.TheVariants.{Unreadable, RepeatedId}
use Rattle.import_run.specs.declared.span_reason.SpanReason.TheVariants.{Circle}
use Rattle.import_run.specs.declared.outcome.Outcome.{Outcome}
use Rattle.import_run.specs.declared.outcome.Outcome.TheVariants.{Done, Memory, Arguments, BadLine}
use Rattle.import_run.specs.declared.outcome.Outcome.TheVariants.{BadSpan, File, TooMany, Write, Size}

-- the form of the files
abbrev pub form_of_input : Input → Form
form_of_input (Lines runs) = forms.Events
form_of_input (Spans form spans) = forms.Spans form

-- the spans of files, and where they stand
abbrev pub spans_view : FileSpans → InputSpans
spans_view s = record { spans = s.spans.items; places = s.places.items }

-- exactly these files were taken
abbrev pub HasTaken : Input → List (List ℕ) → Type 0
HasTaken (Lines runs) inputs = (files_said inputs ≡ Ok (lines_of_runs runs.items))
    × (length (lines_of_runs runs.items) ≤ sum_by length inputs + length inputs)
HasTaken (Spans form spans) inputs = (input_said form inputs ≡ Ok (spans_view spans))
    × (length spans.spans.items ≡ length spans.places.items)

-- why the lines of the file with this index were not appended
abbrev pub IsLineCause : (index : ℕ) → Result (List Line) LineFault → Outcome → Type 0
IsLineCause index said Memory = ⊤
IsLineCause index said (BadLine file line why) =
    (file ≡ index) × (said ≡ Err (record { line = line; why = why }))
IsLineCause index said (BadSpan form at reason) = ⊥
IsLineCause index said (File i) = ⊥
IsLineCause index said Size = ⊥
IsLineCause index said TooMany = ⊥
IsLineCause index said Arguments = ⊥
IsLineCause index said (Done notes) = ⊥
IsLineCause index said Write = ⊥

-- the spans of the file with this index were appended
abbrev pub TakesSpans : (index : ℕ) → Result (List Placed) Fault → (old new : FileSpans) → Type 0
TakesSpans index said old new =
    (more : List Placed) × (said ≡ Ok more) × IsAppended index more old new

-- why they were not
abbrev pub IsSpanCause : SpanForm → (index : ℕ) → Result (List Placed) Fault → Outcome → Type 0
IsSpanCause form index said Memory = ⊤
IsSpanCause form index said (BadSpan of_form at (Unreadable why)) = (form ≡ of_form)
    × (at.file ≡ index) × (said ≡ Err (record { place = at.place; why = why }))
IsSpanCause form index said (BadSpan of_form at RepeatedId) = ⊥
IsSpanCause form index said (BadSpan of_form at Circle) = ⊥
IsSpanCause form index said (BadLine file line why) = ⊥
IsSpanCause form index said (File i) = ⊥
IsSpanCause form index said Size = ⊥
IsSpanCause form index said TooMany = ⊥
IsSpanCause form index said Arguments = ⊥
IsSpanCause form index said (Done notes) = ⊥
IsSpanCause form index said Write = ⊥

-- why the file with this index, the last of these, was not taken
abbrev pub IsFileFault : Form → (index : ℕ) → List (List ℕ) → Outcome → Type 0
IsFileFault form index inputs Memory = ⊤
IsFileFault form index inputs (BadLine file line why) =
    (file ≡ index) × HaveFault form inputs (BadLine file line why)
IsFileFault form index inputs (BadSpan of_form at reason) =
    (at.file ≡ index) × HaveFault form inputs (BadSpan of_form at reason)
IsFileFault form index inputs (File i) = ⊥
IsFileFault form index inputs Size = ⊥
IsFileFault form index inputs TooMany = ⊥
IsFileFault form index inputs Arguments = ⊥
IsFileFault form index inputs (Done notes) = ⊥
IsFileFault form index inputs Write = ⊥

-- taking a file may end so before its end
abbrev pub MayStopTaking : Outcome → Type 0
MayStopTaking Memory = ⊤
MayStopTaking (BadLine file line why) = ⊤
MayStopTaking (BadSpan form at reason) = ⊤
MayStopTaking (File i) = ⊥
MayStopTaking Size = ⊥
MayStopTaking TooMany = ⊥
MayStopTaking Arguments = ⊥
MayStopTaking (Done notes) = ⊥
MayStopTaking Write = ⊥
