use Rattle.event_rewrite.specs.TaskLines.{task_events}
use Rattle.task_pieces.specs.TaskNames.{names_of}
use Rattle.import_laws.proofs.WaitLaws.{else_stays}
use Rattle.import_laws.proofs.laws.all_else_stays.Goals as goal

pub returns : goal.returns
returns c = λ lines. else_stays (names_of (task_events lines)) 0 lines
