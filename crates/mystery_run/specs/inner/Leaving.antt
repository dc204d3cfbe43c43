-- Which objects a run leaves as they were.
use Rattle.std.specs.Prelude.{◌≡◌, ⊤}
use Rattle.mystery_run.specs.declared.outcome.Outcome.{Outcome}
use Rattle.mystery_run.specs.declared.outcome.Outcome.TheVariants.{Done, Memory, Arguments, BadLine}
use Rattle.mystery_run.specs.declared.outcome.Outcome.TheVariants.{File, Write, Size, Over}
use Rattle.mystery_run.specs.declared.outcome.Outcome.TheVariants.{OverGiven}

-- the sink of texts after a run that ended so: untouched where nothing is printed
abbrev pub LeavesSink : {S : Type 0} → Outcome → S → S → Type 0
LeavesSink Done old new = ⊤
LeavesSink Memory old new = ⊤
LeavesSink Arguments old new = new ≡ old
LeavesSink (BadLine line why) old new = new ≡ old
LeavesSink (File index) old new = new ≡ old
LeavesSink Write old new = ⊤
LeavesSink Size old new = new ≡ old
LeavesSink (Over limit) old new = ⊤
LeavesSink (OverGiven limit) old new = new ≡ old

-- the files after a run that ended so: untouched where the arguments are outside the grammar
abbrev pub LeavesFiles : {F : Type 0} → Outcome → F → F → Type 0
LeavesFiles Done old new = ⊤
LeavesFiles Memory old new = ⊤
LeavesFiles Arguments old new = new ≡ old
LeavesFiles (BadLine line why) old new = ⊤
LeavesFiles (File index) old new = ⊤
LeavesFiles Write old new = ⊤
LeavesFiles Size old new = ⊤
LeavesFiles (Over limit) old new = ⊤
LeavesFiles (OverGiven limit) old new = ⊤
