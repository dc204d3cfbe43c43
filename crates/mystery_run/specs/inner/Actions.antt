-- What reading the arguments tells of a call and of its action.
use Rattle.std.specs.Prelude.{ℕ, ◌+◌, ◌<◌, ◌≤◌, length, ⊤}
use Rattle.mystery_run.specs.CommandLines.{Action, Call, session, view, what_if, tail, why, verify}
use Rattle.mystery_run.specs.CommandLines.{evidence, drill, replay, certificate_of_action}
use Rattle.mystery_run.specs.CommandLines.{files_of_action, preface_of_call}

-- how many files an action names
abbrev pub file_count : Action → ℕ
file_count action = length (certificate_of_action action) + length (files_of_action action)

-- how many files are read for a call
abbrev pub call_file_count : Call → ℕ
call_file_count call = length (preface_of_call call) + length (files_of_action call.action)

-- its numbers are in range: those of a change, and how many traces a drill has
abbrev pub IsInRange : Action → Type 0
IsInRange (session files) = ⊤
IsInRange (view v files) = ⊤
IsInRange (what_if change files) = (0 < change.den) × (change.num ≤ change.den)
IsInRange (tail files) = ⊤
IsInRange (why files) = ⊤
IsInRange (verify file files) = ⊤
IsInRange (evidence choice files) = ⊤
IsInRange (drill number traces) = traces ≤ 20000
IsInRange (replay file) = ⊤
