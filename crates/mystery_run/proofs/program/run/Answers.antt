use Rattle.mystery_io.specs.ReadFaults.{files_seen}
use Rattle.mystery_run.specs.Runs.{Seen, run_seen}
use Rattle.mystery_run.proofs.StatusLemmas.{leaves_sink}
use Rattle.mystery_run.proofs.program.run.Goals as goal

pub returns-clause-nothing : goal.returns-clause-nothing
returns-clause-nothing g c =
    let F = g.F.Files in
    let seen : Seen = run_seen c.args.words.now (files_seen F.given F.opens c.args.files.now c.perform-outcome.new.files) g.S.Sink.written c.args.out.now c.perform-outcome.new.out in
    λ k. leaves_sink c.an_input_has_one_ending.ensures c.args.out.now c.perform-outcome.new.out seen c.perform-outcome.result c.status.result c.status.ensures c.perform-outcome.ensures.sink c.perform-outcome.ensures.explains.ends k
