-- Which objects a run leaves as they were, and what it counts.
use Rattle.std.specs.Prelude.{ℕ, ◌≡◌, List, Option, Err, ⊤}
use Rattle.std.specs.Io.KnownBytes.{append_known}
use Rattle.mystery_io.specs.Counts.{counted_up}
use Rattle.mystery_io.specs.Prefixes.{AppendsPrefix}
use Rattle.page_rows.specs.Pages.{page_said}
use Rattle.view_run.specs.Endings.{IsPageOf}
use Rattle.view_run.specs.declared.outcome.Outcome.{Outcome}
use Rattle.view_run.specs.declared.outcome.Outcome.TheVariants.{Done, Memory, Arguments, BadLine}
use Rattle.view_run.specs.declared.outcome.Outcome.TheVariants.{File, Write, Size}

-- what drawing the page of these rows leaves, where it ended so
abbrev pub Draws : Outcome → List ℕ → Option (List ℕ) → Option (List ℕ) → Type 0
Draws Done rows before now =
    (text : List ℕ) × IsPageOf rows text × (now ≡ append_known before text)
Draws Write rows before now = (text : List ℕ) × IsPageOf rows text × AppendsPrefix before now text
Draws (BadLine line why) rows before now =
    (page_said rows ≡ Err (record { line = line; why = why })) × (now ≡ before)
Draws Memory rows before now = now ≡ before
Draws Arguments rows before now = ⊥
Draws File rows before now = ⊥
Draws Size rows before now = ⊥

-- the sink of pages after a run that ended so
abbrev pub LeavesSink : {S : Type 0} → Outcome → S → S → Type 0
LeavesSink Done old new = ⊤
LeavesSink Memory old new = new ≡ old
LeavesSink Arguments old new = new ≡ old
LeavesSink (BadLine line why) old new = new ≡ old
LeavesSink File old new = new ≡ old
LeavesSink Write old new = ⊤
LeavesSink Size old new = new ≡ old

-- the files after it
abbrev pub LeavesFiles : {F : Type 0} → Outcome → F → F → Type 0
LeavesFiles Done old new = ⊤
LeavesFiles Memory old new = ⊤
LeavesFiles Arguments old new = new ≡ old
LeavesFiles (BadLine line why) old new = ⊤
LeavesFiles File old new = ⊤
LeavesFiles Write old new = ⊤
LeavesFiles Size old new = ⊤

-- the count of faults of the sink after it
abbrev pub sink_faults_after : Outcome → ℕ → ℕ
sink_faults_after Done count = count
sink_faults_after Memory count = count
sink_faults_after Arguments count = count
sink_faults_after (BadLine line why) count = count
sink_faults_after File count = count
sink_faults_after Write count = counted_up count
sink_faults_after Size count = count

-- the count of faults of files after it
abbrev pub file_faults_after : Outcome → ℕ → ℕ
file_faults_after Done count = count
file_faults_after Memory count = count
file_faults_after Arguments count = count
file_faults_after (BadLine line why) count = count
file_faults_after File count = counted_up count
file_faults_after Write count = count
file_faults_after Size count = count
