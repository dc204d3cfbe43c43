-- The status of an outcome, and its message.
use Rattle.std.specs.Prelude.{ℕ, ◌+◌, ◌++◌, ◌^◌, List, [], codes, decimal}
use Rattle.digest_merging.specs.declared.digest_limit.DigestLimit.{DigestLimit}
use Rattle.digest_merging.specs.declared.digest_limit.DigestLimit.TheVariants as digest_limits
use Rattle.event_lines.specs.Reasons.{why_text}
use Rattle.mystery_run.specs.declared.reason.Reason.{Reason}
use Rattle.mystery_run.specs.declared.reason.Reason.TheVariants.{Line, Step, Certificate, Summary}
use Rattle.mystery_run.specs.declared.outcome.Outcome.{Outcome}
use Rattle.mystery_run.specs.declared.outcome.Outcome.TheVariants.{Done, Memory, Arguments, BadLine}
use Rattle.mystery_run.specs.declared.outcome.Outcome.TheVariants.{File, Write, Size, Over}
use Rattle.mystery_run.specs.declared.outcome.Outcome.TheVariants.{OverGiven}
use Rattle.session_rules.specs.declared.limit.Limit.{Limit}
use Rattle.session_rules.specs.declared.limit.Limit.TheVariants.{Names, Tasks, Days, Traces}

-- the exit status
abbrev pub status_of : Outcome → ℕ
status_of Done = 0
status_of Memory = 1
status_of Arguments = 2
status_of (BadLine line why) = 3
status_of (File index) = 4
status_of Write = 5
status_of Size = 6
status_of (Over limit) = 6
status_of (OverGiven limit) = 6

-- the text in which it is printed why a line is bad
abbrev pub reason_text : Reason → List ℕ
reason_text (Line why) = why_text why
reason_text Step = codes "bad step"
reason_text Certificate = codes "bad certificate"
reason_text Summary = codes "bad summary"

-- how many there would be after an add that passes this limit, or of traces the least number that
-- passes it, and of what
abbrev pub limit_count : Limit → ℕ
limit_count (Names count) = count
limit_count (Tasks count) = count
limit_count (Days count) = count
limit_count Traces = 2 ^ 64

abbrev pub limit_unit : Limit → List ℕ
limit_unit (Names count) = codes "segment names"
limit_unit (Tasks count) = codes "tasks"
limit_unit (Days count) = codes "days"
limit_unit Traces = codes "traces"

-- the same of a limit that a given digest passes
abbrev pub given_count : DigestLimit → ℕ
given_count (digest_limits.Names count) = count
given_count (digest_limits.Tasks count) = count
given_count digest_limits.Traces = 2 ^ 64

abbrev pub given_unit : DigestLimit → List ℕ
given_unit (digest_limits.Names count) = codes "segment names"
given_unit (digest_limits.Tasks count) = codes "tasks"
given_unit digest_limits.Traces = codes "traces"

-- the message of a limit that so many of these pass
abbrev pub limit_line : ℕ → List ℕ → List ℕ
limit_line count unit = codes "limit: " ++ decimal count ++ codes " " ++ unit ++ codes "\n"

-- what is written to standard error: nothing, or one line. Files are numbered from 1 there, and
-- from 0 in the outcome
abbrev pub message_of : Outcome → List ℕ
message_of Done = []
message_of Memory = codes "out of memory\n"
message_of Arguments = codes "usage: mystery [--workers N] COMMAND FILE...\n"
message_of (BadLine line why) =
    codes "line " ++ decimal line ++ codes ": " ++ reason_text why ++ codes "\n"
message_of (File index) =
    codes "file " ++ decimal (index + 1) ++ codes ": " ++ codes "read failed" ++ codes "\n"
message_of Write = codes "write failed\n"
message_of Size = codes "limit: input over 67108864 bytes\n"
message_of (Over limit) = limit_line (limit_count limit) (limit_unit limit)
message_of (OverGiven limit) = limit_line (given_count limit) (given_unit limit)
