use Rattle.event_lines.specs.LineParts.{lines_of_runs}
use Rattle.mystery_io.specs.ReadFaults.{files_seen}
use Rattle.inspect_run.specs.Endings.{run_seen}
use Rattle.inspect_run.specs.inner.Leaving.{IsText}
use Rattle.inspect_run.proofs.EndingLemmas.{explained}
use Rattle.inspect_run.proofs.program.read_and_write.Goals as goal

pub returns-in-Ok-clause-explains : goal.returns-in-Ok-clause-explains
returns-in-Ok-clause-explains g c =
    let F = g.F.Files in
    let S = g.S.Sink in
    let seen = run_seen c.args.words.now (files_seen F.given F.opens c.args.files.now c.read_input.new.files) S.written c.args.out.now c.write_quality.new.out in
    explained c.write_quality.result seen (IsText c.args.words.now (lines_of_runs c.in-Ok.judged.runs.items) c.in-Ok.judged.findings) c.requires.called c.in-Ok.ensures.read c.in-Ok.ensures.told c.write_quality.ensures.writes
