-- Which objects a run leaves as they were, and what it counts.
use Rattle.std.specs.Prelude.{ℕ, ◌≡◌, ◌<◌, List, Option, Some, slice_get, ⊤}
use Rattle.std.specs.Io.KnownBytes.{append_known}
use Rattle.mystery_io.specs.Counts.{counted_up}
use Rattle.mystery_io.specs.Prefixes.{AppendsPrefix}
use Rattle.span_files.specs.InputSpans.{InputSpans}
use Rattle.span_files.specs.declared.span_form.SpanForm.{SpanForm}
use Rattle.span_files.specs.declared.span_place.SpanPlace.{SpanPlace}
use Rattle.span_requests.specs.declared.span_fault.SpanFault.{SpanFault}
use Rattle.span_requests.specs.declared.span_fault.SpanFault.TheVariants as faults
use Rattle.import_run.specs.CommandLines.{Asked}
use Rattle.import_run.specs.Endings.{AreRefused, IsSpanText}
use Rattle.import_run.specs.declared.notes.Notes.{Notes}
use Rattle.import_run.specs.declared.span_reason.SpanReason.TheVariants.{RepeatedId, Circle}
use Rattle.import_run.specs.declared.outcome.Outcome.{Outcome}
use Rattle.import_run.specs.declared.outcome.Outcome.TheVariants.{Done, Memory, Arguments, BadLine}
use Rattle.import_run.specs.declared.outcome.Outcome.TheVariants.{BadSpan, File, TooMany, Write, Size}

-- the sink of lines after a run that ended so
abbrev pub LeavesSink : {S : Type 0} → Outcome → S → S → Type 0
LeavesSink (Done notes) old new = ⊤
LeavesSink Memory old new = new ≡ old
LeavesSink Arguments old new = new ≡ old
LeavesSink (BadLine file line why) old new = new ≡ old
LeavesSink (BadSpan form at reason) old new = new ≡ old
LeavesSink (File index) old new = new ≡ old
LeavesSink Write old new = ⊤
LeavesSink Size old new = new ≡ old
LeavesSink TooMany old new = new ≡ old

-- the files after it
abbrev pub LeavesFiles : {F : Type 0} → Outcome → F → F → Type 0
LeavesFiles (Done notes) old new = ⊤
LeavesFiles Memory old new = ⊤
LeavesFiles Arguments old new = new ≡ old
LeavesFiles (BadLine file line why) old new = ⊤
LeavesFiles (BadSpan form at reason) old new = ⊤
LeavesFiles (File index) old new = ⊤
LeavesFiles Write old new = ⊤
LeavesFiles Size old new = ⊤
LeavesFiles TooMany old new = ⊤

-- the count of faults of the sink after it
abbrev pub sink_faults_after : Outcome → ℕ → ℕ
sink_faults_after (Done notes) count = count
sink_faults_after Memory count = count
sink_faults_after Arguments count = count
sink_faults_after (BadLine file line why) count = count
sink_faults_after (BadSpan form at reason) count = count
sink_faults_after (File index) count = count
sink_faults_after Write count = counted_up count
sink_faults_after Size count = count
sink_faults_after TooMany count = count

-- what writing a text with these notes leaves, where it ended so
abbrev pub WritesText : Outcome → List ℕ → Notes → Option (List ℕ) → Option (List ℕ) → Type 0
WritesText (Done told) text notes before now = (told ≡ notes) × (now ≡ append_known before text)
WritesText Write text notes before now = AppendsPrefix before now text
WritesText Memory text notes before now = now ≡ before
WritesText Arguments text notes before now = ⊥
WritesText (BadLine file line why) text notes before now = ⊥
WritesText (BadSpan form at reason) text notes before now = ⊥
WritesText (File index) text notes before now = ⊥
WritesText Size text notes before now = ⊥
WritesText TooMany text notes before now = ⊥

-- what writing the lines of spans leaves, where it ended so
abbrev pub WritesSpans : Outcome → SpanForm → Asked → InputSpans
    → Option (List ℕ) → Option (List ℕ) → Type 0
WritesSpans (Done notes) form asked spans before now =
    (text : List ℕ) × IsSpanText asked spans.spans text notes × (now ≡ append_known before text)
WritesSpans Write form asked spans before now = (text : List ℕ) × (notes : Notes)
    × IsSpanText asked spans.spans text notes × AppendsPrefix before now text
WritesSpans Memory form asked spans before now = now ≡ before
WritesSpans (BadSpan of_form at reason) form asked spans before now =
    AreRefused form asked spans (BadSpan of_form at reason) × (now ≡ before)
WritesSpans TooMany form asked spans before now =
    AreRefused form asked spans TooMany × (now ≡ before)
WritesSpans Arguments form asked spans before now = ⊥
WritesSpans (BadLine file line why) form asked spans before now = ⊥
WritesSpans (File index) form asked spans before now = ⊥
WritesSpans Size form asked spans before now = ⊥

-- the index that a fault tells is below this
abbrev pub IsWithin : ℕ → SpanFault → Type 0
IsWithin count faults.Memory = ⊤
IsWithin count (faults.RepeatedId n) = n < count
IsWithin count (faults.Circle n) = n < count

-- how a run ends whose spans have a fault, which stand at these places
abbrev pub IsFaultOutcome : SpanForm → List SpanPlace → SpanFault → Outcome → Type 0
IsFaultOutcome form places faults.Memory outcome = outcome ≡ Memory
IsFaultOutcome form places (faults.RepeatedId n) outcome = (at : SpanPlace)
    × (outcome ≡ BadSpan form at RepeatedId) × (slice_get places n ≡ Some at)
IsFaultOutcome form places (faults.Circle n) outcome =
    (at : SpanPlace) × (outcome ≡ BadSpan form at Circle) × (slice_get places n ≡ Some at)
