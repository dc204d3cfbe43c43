-- The jobs of the lines of an input.
use Rattle.std.specs.Prelude.{List, [], ◌∷◌, ◌++◌, ⊤}
use Rattle.event_lines.specs.declared.command.Command as asked
use Rattle.event_lines.specs.declared.command.Command.TheVariants as commands
use Rattle.event_lines.specs.declared.line.Line.{Line}
use Rattle.event_lines.specs.declared.line.Line.TheVariants as lines
use Rattle.trace_types.specs.declared.event.Event as events
use Rattle.session_rules.specs.declared.job.Job.{Job}
use Rattle.session_rules.specs.declared.job.Job.TheVariants.{Add, Control, Summary, WhatIf, Tail}
use Rattle.session_rules.specs.declared.job.Job.TheVariants.{Why, Verify, Evidence}

-- the job of a command, where these events came since the last add: an add takes them, and each other
-- command is a job of its own
abbrev pub job_of : List events.Event → asked.Command → Job
job_of batch commands.Add = Add batch
job_of batch command = Control command

-- the events that are in no batch yet after a command: an add takes them all
abbrev pub batch_after : List events.Event → asked.Command → List events.Event
batch_after batch commands.Add = []
batch_after batch command = batch

-- the jobs of lines, where these events came since the last add: each add takes the events since
-- the one before it, and those after the last add are in no job
abbrev pub jobs_from : List events.Event → List Line → List Job
jobs_from batch [] = []
jobs_from batch (lines.Event event ∷ lines) = jobs_from (batch ++ event ∷ []) lines
jobs_from batch (lines.Control line command ∷ lines) =
    job_of batch command ∷ jobs_from (batch_after batch command) lines

-- the jobs of the lines of an input
abbrev pub jobs_of : List Line → List Job
jobs_of lines = jobs_from [] lines

-- the job is not an add
abbrev pub IsNoAdd : Job → Type 0
IsNoAdd (Add events) = ⊥
IsNoAdd (Control command) = ⊤
IsNoAdd Summary = ⊤
IsNoAdd (WhatIf change) = ⊤
IsNoAdd Tail = ⊤
IsNoAdd Why = ⊤
IsNoAdd (Verify claims) = ⊤
IsNoAdd (Evidence choice) = ⊤
