-- Which objects a run leaves as they were, and what it counts.
use Rattle.std.specs.Prelude.{ℕ, ◌≡◌, ◌+◌, ◌++◌, List, Option, length, ⊤}
use Rattle.trace_types.specs.Batch.{traces_of}
use Rattle.std.specs.Io.KnownBytes.{append_known}
use Rattle.mystery_io.specs.Counts.{counted_up}
use Rattle.mystery_io.specs.Prefixes.{AppendsPrefix}
use Rattle.event_lines.specs.declared.line.Line.{Line}
use Rattle.line_quality.specs.EventsRead.{events_in}
use Rattle.line_quality.specs.declared.findings.Findings.{Findings}
use Rattle.inspect_run.specs.GraceRows.{AreGraceRows}
use Rattle.inspect_run.specs.LineRows.{rows_of_lines}
use Rattle.inspect_run.specs.Logged.{logged_events}
use Rattle.inspect_run.specs.NameRows.{AreNameRows}
use Rattle.inspect_run.specs.TraceRows.{AreTraceRows}
use Rattle.inspect_run.specs.declared.outcome.Outcome.{Outcome}
use Rattle.inspect_run.specs.declared.outcome.Outcome.TheVariants.{Done, Memory, Arguments, File}
use Rattle.inspect_run.specs.declared.outcome.Outcome.TheVariants.{Write, Size}

-- the sink of lines after a run that ended so
abbrev pub LeavesSink : {S : Type 0} → Outcome → S → S → Type 0
LeavesSink Done old new = ⊤
LeavesSink Memory old new = new ≡ old
LeavesSink Arguments old new = new ≡ old
LeavesSink (File index) old new = new ≡ old
LeavesSink Write old new = ⊤
LeavesSink Size old new = new ≡ old

-- the files after it
abbrev pub LeavesFiles : {F : Type 0} → Outcome → F → F → Type 0
LeavesFiles Done old new = ⊤
LeavesFiles Memory old new = ⊤
LeavesFiles Arguments old new = new ≡ old
LeavesFiles (File index) old new = ⊤
LeavesFiles Write old new = ⊤
LeavesFiles Size old new = ⊤

-- the count of faults of the sink after it
abbrev pub sink_faults_after : Outcome → ℕ → ℕ
sink_faults_after Done count = count
sink_faults_after Memory count = count
sink_faults_after Arguments count = count
sink_faults_after (File index) count = count
sink_faults_after Write count = counted_up count
sink_faults_after Size count = count

-- what writing a text that tells what it should leaves, where it ended so
abbrev pub WritesText : Outcome → (List ℕ → Type 0) → Option (List ℕ) → Option (List ℕ) → Type 0
WritesText Done Told before now =
    (text : List ℕ) × Told text × (now ≡ append_known before text)
WritesText Write Told before now = (text : List ℕ) × Told text × AppendsPrefix before now text
WritesText Memory Told before now = now ≡ before
WritesText Arguments Told before now = ⊥
WritesText (File index) Told before now = ⊥
WritesText Size Told before now = ⊥

-- the rows on lines that were judged
abbrev pub quality_text : List (List ℕ) → List Line → Findings → List ℕ
quality_text words lines findings =
    rows_of_lines words (length (events_in lines)) (length lines + length findings.reasons.items)
    findings.reasons.items findings.first.items

-- the text has the rows on lines that were judged, those on the traces of their events, those on the
-- names of segments of these, and those on relations that few of them refute
pub record IsText (words : List (List ℕ)) (lines : List Line) (findings : Findings)
    (text : List ℕ) : Type 0 where
  pub rows : List ℕ
  pub told : AreTraceRows (traces_of (logged_events lines)) rows
  pub on_names : List ℕ
  pub names_told : AreNameRows (traces_of (logged_events lines)) on_names
  pub on_graces : List ℕ
  pub graces_told : AreGraceRows (traces_of (logged_events lines)) on_graces
  pub printed : text ≡ quality_text words lines findings ++ rows ++ on_names ++ on_graces
