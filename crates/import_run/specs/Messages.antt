-- The status of an outcome, and its message.
use Rattle.std.specs.Prelude.{ℕ, ◌+◌, ◌==◌, ◌++◌, List, [], codes, decimal, if◌then◌else◌}
use Rattle.event_lines.specs.Reasons.{why_text}
use Rattle.span_text.specs.Reasons as spans
use Rattle.span_files.specs.declared.span_form.SpanForm.{SpanForm}
use Rattle.span_files.specs.declared.span_form.SpanForm.TheVariants.{Otlp, Jaeger, Zipkin}
use Rattle.import_run.specs.declared.notes.Notes.{Notes}
use Rattle.import_run.specs.declared.span_reason.SpanReason.{SpanReason}
use Rattle.import_run.specs.declared.span_reason.SpanReason.TheVariants.{Unreadable, RepeatedId}
use Rattle.import_run.specs.declared.span_reason.SpanReason.TheVariants.{Circle}
use Rattle.import_run.specs.declared.outcome.Outcome.{Outcome}
use Rattle.import_run.specs.declared.outcome.Outcome.TheVariants.{Done, Memory, Arguments, BadLine}
use Rattle.import_run.specs.declared.outcome.Outcome.TheVariants.{BadSpan, File, TooMany, Write, Size}

-- the exit status
abbrev pub status_of : Outcome → ℕ
status_of (Done notes) = 0
status_of Memory = 1
status_of Arguments = 2
status_of (BadLine file line why) = 3
status_of (BadSpan form at reason) = 3
status_of (File index) = 4
status_of Write = 5
status_of Size = 6
status_of TooMany = 6

-- no notes
abbrev pub no_notes : Notes
no_notes = record { missing = 0; long = 0 }

-- a note with a number: nothing, where there are none, or one line
abbrev pub note_text : List ℕ → ℕ → List ℕ
note_text what number =
    if number == 0 then [] else codes "note: " ++ what ++ codes ": " ++ decimal number ++ codes "\n"

abbrev pub notes_text : Notes → List ℕ
notes_text notes = note_text (codes "spans whose parent is missing") notes.missing
    ++ note_text (codes "requests over 4096 lines") notes.long

-- what a place of this form counts
abbrev pub unit_text : SpanForm → List ℕ
unit_text Otlp = codes ": line "
unit_text Jaeger = codes ": span "
unit_text Zipkin = codes ": span "

-- the text in which a reason is printed
abbrev pub reason_text : SpanReason → List ℕ
reason_text (Unreadable why) = spans.why_text why
reason_text RepeatedId = codes "span id twice in a trace"
reason_text Circle = codes "parents form a circle"

-- what is written to standard error: nothing, notes, or one line. Files are numbered from 1 there,
-- and from 0 in the outcome
abbrev pub message_of : Outcome → List ℕ
message_of (Done notes) = notes_text notes
message_of Memory = codes "out of memory\n"
message_of Arguments = codes
    "usage: mystery import FORM [--grace MICROS] [--entry NAME] [--fold] [FILE]...\n"
message_of (BadLine file line why) =
    codes "file " ++ decimal (file + 1) ++ codes ": line " ++ decimal line ++ codes ": "
    ++ why_text why ++ codes "\n"
message_of (BadSpan form at reason) =
    codes "file " ++ decimal (at.file + 1) ++ unit_text form ++ decimal at.place ++ codes ": "
    ++ reason_text reason ++ codes "\n"
message_of (File index) = codes "file " ++ decimal (index + 1) ++ codes ": read failed\n"
message_of Write = codes "write failed\n"
message_of Size = codes "limit: input over 268435456 bytes\n"
message_of TooMany = codes "limit: input over 1000000000 spans\n"
