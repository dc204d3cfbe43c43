use Rattle.std.proofs.lemmas.Result.{on_ok_weaker}
use Rattle.event_lines.specs.LineParts.{lines_of_runs}
use Rattle.line_quality.proofs.SortingLemmas.{judges_good}
use Rattle.line_quality.proofs.judging.judge_lines.Goals as goal

pub returns-in-Ok : goal.returns-in-Ok
returns-in-Ok g c =
    on_ok_weaker c.append_lines.result (λ is. judges_good c.args.file c.args.bytes.now (lines_of_runs c.args.runs.now.items) (lines_of_runs c.append_lines.new.runs.items) c.in-Ok.lines c.args.findings.now is c.in-Ok.ensures.lines_read c.in-Ok.ensures.timely)
    c.append_lines.ensures
