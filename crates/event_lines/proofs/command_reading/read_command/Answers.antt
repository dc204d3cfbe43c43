use Rattle.std.proofs.Common.{refl}
use Rattle.event_lines.proofs.CommandLemmas.{no_command}
use Rattle.event_lines.proofs.command_reading.read_command.Goals as goal

pub returns-in_default : goal.returns-in_default
returns-in_default c =
    let other = c.in_default in
    rw (no_command c.args.name.now other.not-add other.not-drop other.not-keep other.not-watch other.not-grace other.not-model other.not-paths other.not-slack other.not-report other.not-graph other.not-summarize) refl
