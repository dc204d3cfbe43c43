-- Which jobs a session carries out.
use Rattle.std.specs.Prelude.{ℕ, ◌<◌, ◌≤◌, ◌^◌, List, All, length, sum_by, ⊤}
use Rattle.event_lines.specs.declared.command.Command as asked
use Rattle.event_lines.specs.declared.command.Command.TheVariants as commands
use Rattle.trace_types.specs.Batch.{requests_of}
use Rattle.trace_types.specs.Times.{AreTimely}
use Rattle.session_rules.specs.declared.job.Job.{Job}
use Rattle.session_rules.specs.declared.job.Job.TheVariants.{Add, Control, Summary, WhatIf, Tail}
use Rattle.session_rules.specs.declared.job.Job.TheVariants.{Why, Verify, Evidence}

-- the greatest grace, in microseconds: a second
abbrev pub most_micros : ℕ
most_micros = 1000000

-- how many requests the events of a job have: each may become a kept trace
abbrev pub requests_in : Job → ℕ
requests_in (Add events) = length (requests_of events)
requests_in (Control command) = 0
requests_in Summary = 0
requests_in (WhatIf change) = 0
requests_in Tail = 0
requests_in Why = 0
requests_in (Verify claims) = 0
requests_in (Evidence choice) = 0

-- a session carries out the command: an add is a job of its own
abbrev pub IsReadyCommand : asked.Command → Type 0
IsReadyCommand commands.Add = ⊥
IsReadyCommand (commands.Drop day) = ⊤
IsReadyCommand (commands.Keep days) = ⊤
IsReadyCommand (commands.Watch every) = ⊤
IsReadyCommand (commands.Grace micros) = micros ≤ most_micros
IsReadyCommand commands.Model = ⊤
IsReadyCommand commands.Paths = ⊤
IsReadyCommand commands.Slack = ⊤
IsReadyCommand commands.Report = ⊤
IsReadyCommand commands.Graph = ⊤
IsReadyCommand commands.Summarize = ⊤

-- a session carries out the job: it adds fewer than 4,294,967,296 events, whose times are within
-- the limit; a change that it forecasts takes no time or some, at most as much as now; the claims
-- that it verifies are fewer than 4,294,967,296
abbrev pub IsReady : Job → Type 0
IsReady (Add events) = AreTimely events × (length events < 2 ^ 32)
IsReady (Control command) = IsReadyCommand command
IsReady Summary = ⊤
IsReady (WhatIf change) = (0 < change.den) × (change.num ≤ change.den)
IsReady Tail = ⊤
IsReady Why = ⊤
IsReady (Verify claims) = length claims < 2 ^ 32
IsReady (Evidence choice) = ⊤

-- sessions carry out each of the jobs, and all their requests are fewer than 4,294,967,296
pub record AreReady (jobs : List Job) : Type 0 where
  pub each : All IsReady jobs
  pub few : sum_by requests_in jobs < 2 ^ 32
