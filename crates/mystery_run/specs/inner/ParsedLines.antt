-- Parsed arguments, seen as what the grammar says of them.
use Rattle.mystery_run.specs.CommandLines.{Action, Call, session, view, what_if, tail, why, verify}
use Rattle.mystery_run.specs.CommandLines.{evidence, drill, replay, given_in}
use Rattle.mystery_run.specs.declared.action.Action as asked
use Rattle.mystery_run.specs.declared.action.Action.TheVariants as actions
use Rattle.mystery_run.specs.declared.change_words.ChangeWords.{ChangeWords}
use Rattle.mystery_run.specs.declared.command_line.CommandLine.{CommandLine}
use Rattle.session_rules.specs.declared.named_change.NamedChange.{NamedChange}

-- a parsed change, seen as the change that it is
abbrev pub change_of : ChangeWords → NamedChange
change_of c = record { name = (c.task.now, c.start.now, c.end.now); num = c.num; den = c.den }

-- a parsed action, seen as the action that it is
abbrev pub action_of : asked.Action → Action
action_of (actions.Session files) = session files.now
action_of (actions.View v files) = view v files.now
action_of (actions.WhatIf change files) = what_if (change_of change) files.now
action_of (actions.Tail files) = tail files.now
action_of (actions.Why files) = why files.now
action_of (actions.Verify file files) = verify file.now files.now
action_of (actions.Evidence choice files) = evidence choice files.now
action_of (actions.Drill number traces) = drill number traces
action_of (actions.Replay file) = replay file.now

-- a parsed command line, seen as the call that it is
abbrev pub call_of_line : CommandLine → Call
call_of_line line = record {
  workers = line.workers;
  given = given_in line.given.now;
  action = action_of line.action;
}
