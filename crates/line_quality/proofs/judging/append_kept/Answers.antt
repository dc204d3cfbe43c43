use Rattle.std.proofs.Common.{subst}
use Rattle.std.proofs.lemmas.Result.{on_ok_weaker}
use Rattle.event_lines.specs.InputLines.{IsLineError, lines_said}
use Rattle.event_lines.specs.LineParts.{lines_of_runs}
use Rattle.event_lines.specs.declared.line_error.LineError.{LineError}
use Rattle.line_quality.proofs.SortingLemmas.{appends, never_bad}
use Rattle.line_quality.proofs.judging.append_kept.Goals as goal

pub returns-in-Ok : goal.returns-in-Ok
returns-in-Ok g c =
    on_ok_weaker c.append_lines.result (λ is. appends c.args.text.now (lines_of_runs c.args.runs.now.items) (lines_of_runs c.append_lines.new.runs.items) c.in-Ok.lines is c.in-Ok.ensures.lines_read c.in-Ok.ensures.timely) c.append_lines.ensures

pub unreachable-requires : goal.unreachable-requires
unreachable-requires g c =
    never_bad c.args.text.now (record { line = c.in-Err-Bad.field-0-0; why = c.in-Err-Bad.field-0-1 }) c.requires.kept
    (subst (λ (e : LineError). IsLineError (lines_said c.args.text.now) e) c.in-Err-Bad.field-0-is c.in-Err-Bad.ensures.first_bad)
