use Rattle.std.proofs.Common.{sym}
use Rattle.event_lines.specs.LineParts.{lines_of_runs}
use Rattle.mystery_io.specs.ReadFaults.{files_seen}
use Rattle.import_run.specs.Endings.{Seen, run_seen}
use Rattle.import_run.specs.inner.ParsedLines.{call_of_line}
use Rattle.import_run.proofs.EndingLemmas.{lines_explained}
use Rattle.import_run.proofs.program.perform.Goals as goal

pub returns-in-Ok-Lines-clause-explains : goal.returns-in-Ok-Lines-clause-explains
returns-in-Ok-Lines-clause-explains g c =
    let F = g.F.Files in
    let seen : Seen = run_seen c.args.words.now (files_seen F.given F.opens c.args.files.now c.read_input.new.files) g.S.Sink.written c.args.out.now c.write_lines.new.out in
    let h = rw c.in-Ok-Lines.field-0-is at c.in-Ok-Lines.ensures.input in
    lines_explained seen (call_of_line c.in-Some.line) (sym c.in-Some.ensures.asked) (lines_of_runs c.in-Ok-Lines.runs.items) h.0 h.1 c.write_lines.result (rw c.deref.ensures.value at c.write_lines.ensures.writes)
