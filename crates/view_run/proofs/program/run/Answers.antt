use Rattle.mystery_io.specs.ReadFaults.{files_seen}
use Rattle.view_run.specs.Endings.{Explains, Seen, run_seen}
use Rattle.view_run.proofs.StatusLemmas.{of_bad}
use Rattle.view_run.proofs.program.run.Goals as goal

pub returns-clause-bad : goal.returns-clause-bad
returns-clause-bad g c k =
    let F = g.F.Files in
    let seen : Seen = run_seen c.args.words.now (files_seen F.given F.opens c.args.files.now c.perform-outcome.new.files) g.S.Sink.written c.args.out.now c.perform-outcome.new.out in
    let h = of_bad (λ o. Explains o seen) c.perform-outcome.result c.status.result c.status.ensures c.perform-outcome.ensures.explains k in
    (h.0, h.1, h.2)
