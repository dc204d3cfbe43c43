-- Which lines make jobs that sessions carry out: statements that laws prove.
use Rattle.std.specs.Prelude.{◌≡◌, ◌⊎◌, ◌^◌, ◌<◌, ◌≤◌, ◌++◌, List, All, length, sum_by}
use Rattle.event_lines.specs.GoodLines.{IsLimited, IsTimely}
use Rattle.event_lines.specs.declared.command.Command.TheVariants.{Add}
use Rattle.event_lines.specs.declared.line.Line.{Line}
use Rattle.event_lines.specs.declared.line.Line.TheVariants as lines
use Rattle.session_rules.specs.ReadyJobs.{IsReady, IsReadyCommand, requests_in}
use Rattle.session_rules.specs.Jobs.{jobs_of}
use Rattle.session_rules.specs.declared.job.Job.{Job}
use Rattle.session_rules.specs.ReadyJobs.{AreReady}
use Rattle.trace_types.specs.Batch.{requests_of}
use Rattle.trace_types.specs.declared.event.Event.{Event}

-- a command with which an input may go on: an add, or one that a session carries out
abbrev pub IsFurther : Line → Type 0
IsFurther (lines.Event event) = ⊥
IsFurther (lines.Control line command) = (command ≡ Add) ⊎ IsReadyCommand command

-- the lines of an input, further commands, and jobs without requests make jobs that sessions carry
-- out
abbrev pub JobsAreReady : Type 0
JobsAreReady = (lines more : List Line) (last : List Job) → All IsTimely lines → All IsLimited lines
    → length lines < 2 ^ 32 → All IsFurther more → All IsReady last
    → sum_by requests_in last ≡ 0 → AreReady (jobs_of (lines ++ more) ++ last)

-- a batch has no more requests than events
abbrev pub BatchHasFewRequests : Type 0
BatchHasFewRequests = (events : List Event) → length (requests_of events) ≤ length events

-- the jobs of lines have no more requests than there are lines
abbrev pub JobsHaveFewRequests : Type 0
JobsHaveFewRequests = (lines : List Line) → sum_by requests_in (jobs_of lines) ≤ length lines
