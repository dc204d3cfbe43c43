-- How a run ends, and what it writes.
use Rattle.std.specs.Prelude.{ℕ, ◌≡◌, ◌+◌, ◌<◌, ◌≤◌, List, [], Ok, Err, Option, Some, length}
use Rattle.std.specs.Prelude.{slice_get, take, false, if◌then◌else◌}
use Rattle.std.specs.Io.KnownBytes.{append_known}
use Rattle.event_lines.specs.declared.line.Line.{Line}
use Rattle.event_rewrite.specs.WithoutWaits.{without_waits}
use Rattle.event_text.specs.LineTexts.{lines_text}
use Rattle.mystery_io.specs.Prefixes.{AppendsPrefix}
use Rattle.mystery_io.specs.ReadFaults.{FilesSeen, OpensFirst}
use Rattle.mystery_io.specs.Readings.{AreEnded}
use Rattle.span_types.specs.declared.span.Span.{Span}
use Rattle.span_files.specs.InputSpans.{InputSpans, input_said}
use Rattle.span_files.specs.declared.span_form.SpanForm.{SpanForm}
use Rattle.span_files.specs.declared.span_place.SpanPlace.{SpanPlace}
use Rattle.span_lines.specs.FoldedSpans.{folded_spans}
use Rattle.span_lines.specs.SpanTexts.{AreSpanLines}
use Rattle.span_lines.specs.declared.span_text.SpanText.{SpanText}
use Rattle.span_requests.specs.Faults.{IsFaultOf}
use Rattle.span_requests.specs.declared.span_fault.SpanFault.{SpanFault}
use Rattle.span_requests.specs.declared.span_fault.SpanFault.TheVariants as faults
use Rattle.import_run.specs.CommandLines.{Asked, Call, call_of, is_in_grammar}
use Rattle.import_run.specs.Inputs.{bytes_given, files_said, input_limit, size_given}
use Rattle.import_run.specs.Messages.{no_notes}
use Rattle.import_run.specs.declared.form.Form.{Form}
use Rattle.import_run.specs.declared.form.Form.TheVariants.{Events, Spans}
use Rattle.import_run.specs.declared.notes.Notes.{Notes}
use Rattle.import_run.specs.declared.span_reason.SpanReason.TheVariants.{Unreadable, RepeatedId}
use Rattle.import_run.specs.declared.span_reason.SpanReason.TheVariants.{Circle}
use Rattle.import_run.specs.declared.outcome.Outcome.{Outcome}
use Rattle.import_run.specs.declared.outcome.Outcome.TheVariants.{Done, Memory, Arguments, BadLine}
use Rattle.import_run.specs.declared.outcome.Outcome.TheVariants.{BadSpan, File, TooMany, Write, Size}

-- what a run saw: its arguments, the files, and what was written to the sink of lines, before and now
pub record Seen : Type 0 where
  pub words : List (List ℕ)
  pub files : FilesSeen
  pub written_before : Option (List ℕ)
  pub written_now : Option (List ℕ)

-- the same, by what the sink tells in its states before and now
abbrev pub run_seen : {S : Type 0} → List (List ℕ) → FilesSeen → (S → Option (List ℕ)) → S → S
    → Seen
run_seen words files written old new = record {
  words = words;
  files = files;
  written_before = written old;
  written_now = written new;
}

-- exactly the first of these names were opened, in order, so many, each read to its end, and they are
-- within the limit
pub record ReadsFirst (files : FilesSeen) (names : List (List ℕ)) (count : ℕ) : Type 0 where
  pub opened : OpensFirst files names count
  pub ended : AreEnded files.readings
  pub fits : size_given files.readings ≤ input_limit

-- files in this form have no fault
abbrev pub AreGood : Form → List (List ℕ) → Type 0
AreGood Events inputs = (lines : List Line) × (files_said inputs ≡ Ok lines)
AreGood (Spans form) inputs = (spans : InputSpans) × (input_said form inputs ≡ Ok spans)

-- exactly the first were opened, in order, up to the one at this index; those before it have no
-- fault and are within the limit
pub record ReadsUpTo (form : Form) (files : FilesSeen) (names : List (List ℕ)) (index : ℕ)
    : Type 0 where
  pub opened : OpensFirst files names (index + 1)
  pub good : AreGood form (bytes_given (take index files.readings))
  pub fits : size_given (take index files.readings) ≤ input_limit

-- all files were read, and these are their lines
pub record HasLines (files : FilesSeen) (names : List (List ℕ)) (lines : List Line) : Type 0 where
  pub read : ReadsFirst files names (length names)
  pub good : files_said (bytes_given files.readings) ≡ Ok lines

-- all files were read, and these are their spans, in this form
pub record HasSpans (form : SpanForm) (files : FilesSeen) (names : List (List ℕ))
    (spans : InputSpans) : Type 0 where
  pub read : ReadsFirst files names (length names)
  pub good : input_said form (bytes_given files.readings) ≡ Ok spans

-- the last of these files has this fault, its first, and those before it have none
abbrev pub HaveFault : Form → List (List ℕ) → Outcome → Type 0
HaveFault form inputs (BadLine file line why) =
    (form ≡ Events)
    × (files_said inputs ≡ Err (record { file = file; line = line; why = why }))
HaveFault form inputs (BadSpan of_form at (Unreadable why)) = (form ≡ Spans of_form)
    × (input_said of_form inputs
    ≡ Err (record { file = at.file; fault = record { place = at.place; why = why } }))
HaveFault form inputs (BadSpan of_form at RepeatedId) = ⊥
HaveFault form inputs (BadSpan of_form at Circle) = ⊥
HaveFault form inputs Memory = ⊥
HaveFault form inputs Arguments = ⊥
HaveFault form inputs (Done notes) = ⊥
HaveFault form inputs (File index) = ⊥
HaveFault form inputs Write = ⊥
HaveFault form inputs Size = ⊥
HaveFault form inputs TooMany = ⊥

-- why the files of a run were not read, where it ended so
abbrev pub StopsReading : Form → Outcome → FilesSeen → List (List ℕ) → Type 0
StopsReading form Memory files names = (count : ℕ) × OpensFirst files names count
StopsReading form (File index) files names = ReadsUpTo form files names index
StopsReading form Size files names =
    ((index : ℕ) × ReadsUpTo form files names index) × (input_limit < size_given files.readings)
StopsReading form (BadLine file line why) files names =
    ReadsFirst files names (file + 1)
    × HaveFault form (bytes_given files.readings) (BadLine file line why)
StopsReading form (BadSpan of_form at reason) files names =
    ReadsFirst files names (at.file + 1)
    × HaveFault form (bytes_given files.readings) (BadSpan of_form at reason)
StopsReading form Arguments files names = ⊥
StopsReading form (Done notes) files names = ⊥
StopsReading form Write files names = ⊥
StopsReading form TooMany files names = ⊥

-- the arguments are in the grammar, reading ended so, and nothing was written
pub record Stops (outcome : Outcome) (seen : Seen) : Type 0 where
  pub call : Call
  pub called : call_of seen.words ≡ Some call
  pub reading : StopsReading call.form outcome seen.files call.names
  pub written : seen.written_now ≡ seen.written_before

-- spans under the names that are asked for: those that differ in ids are made one with `--fold`
abbrev pub named_spans : Asked → List Span → List Span
named_spans asked spans = if asked.fold then folded_spans spans else spans

-- the text of spans as it is asked for, and what is told of them
abbrev pub IsSpanText : Asked → List Span → List ℕ → Notes → Type 0
IsSpanText asked spans text notes = (t : SpanText)
    × AreSpanLines asked.grace asked.entry (named_spans asked spans) t
    × (text ≡ t.text.items) × (notes ≡ record { missing = t.missing; long = t.long })

-- the span that stands at this place has this fault
abbrev pub HasFaultAt : Asked → InputSpans → SpanPlace → (ℕ → SpanFault) → Type 0
HasFaultAt asked spans at fault = (n : ℕ)
    × IsFaultOf (named_spans asked spans.spans) (fault n) × (slice_get spans.places n ≡ Some at)

-- the most spans of an input; one within the limit of bytes has fewer
abbrev pub most_spans : ℕ
most_spans = 1000000000

-- why spans that were read are refused
abbrev pub AreRefused : SpanForm → Asked → InputSpans → Outcome → Type 0
AreRefused form asked spans (BadSpan of_form at RepeatedId) =
    (of_form ≡ form) × HasFaultAt asked spans at (λ n. faults.RepeatedId n)
AreRefused form asked spans (BadSpan of_form at Circle) =
    (of_form ≡ form) × HasFaultAt asked spans at (λ n. faults.Circle n)
AreRefused form asked spans (BadSpan of_form at (Unreadable why)) = ⊥
AreRefused form asked spans TooMany = most_spans < length spans.spans
AreRefused form asked spans (BadLine file line why) = ⊥
AreRefused form asked spans Memory = ⊥
AreRefused form asked spans Arguments = ⊥
AreRefused form asked spans (Done notes) = ⊥
AreRefused form asked spans (File index) = ⊥
AreRefused form asked spans Write = ⊥
AreRefused form asked spans Size = ⊥

-- the arguments are in the grammar, all files were read, their spans are refused so, and nothing was
-- written
pub record Refuses (outcome : Outcome) (seen : Seen) : Type 0 where
  pub call : Call
  pub called : call_of seen.words ≡ Some call
  pub form : SpanForm
  pub is_form : call.form ≡ Spans form
  pub spans : InputSpans
  pub read : HasSpans form seen.files call.names spans
  pub cause : AreRefused form call.asked spans outcome
  pub written : seen.written_now ≡ seen.written_before

-- all files were read, and this is the text of what they have, and what is told of it
abbrev pub IsText : Form → Asked → FilesSeen → List (List ℕ) → List ℕ → Notes → Type 0
IsText Events asked files names text notes = (lines : List Line) × HasLines files names lines
    × (text ≡ lines_text (without_waits lines)) × (notes ≡ no_notes)
IsText (Spans form) asked files names text notes = (spans : InputSpans)
    × HasSpans form files names spans × IsSpanText asked spans.spans text notes

-- the arguments are in the grammar, and this is the text that they ask for
pub record HasText (seen : Seen) (text : List ℕ) (notes : Notes) : Type 0 where
  pub call : Call
  pub called : call_of seen.words ≡ Some call
  pub told : IsText call.form call.asked seen.files call.names text notes

-- a run that ended so has its cause: the arguments, the files and what they say, and what is written
abbrev pub Explains : Outcome → Seen → Type 0
Explains Arguments seen =
    (is_in_grammar seen.words ≡ false) × OpensFirst seen.files [] 0
    × (seen.written_now ≡ seen.written_before)
Explains Memory seen = Stops Memory seen
Explains (File index) seen = Stops (File index) seen
Explains Size seen = Stops Size seen
Explains (BadLine file line why) seen = Stops (BadLine file line why) seen
Explains (BadSpan form at (Unreadable why)) seen = Stops (BadSpan form at (Unreadable why)) seen
Explains (BadSpan form at RepeatedId) seen = Refuses (BadSpan form at RepeatedId) seen
Explains (BadSpan form at Circle) seen = Refuses (BadSpan form at Circle) seen
Explains TooMany seen = Refuses TooMany seen
Explains (Done notes) seen =
    (text : List ℕ) × HasText seen text notes
    × (seen.written_now ≡ append_known seen.written_before text)
Explains Write seen =
    (text : List ℕ) × (notes : Notes) × HasText seen text notes
    × AppendsPrefix seen.written_before seen.written_now text
