use Rattle.std.proofs.Common.{sym, subst}
use Rattle.word_rule.specs.Holdings.{Holding}
use Rattle.trace_pass.specs.inner.Working.{HasRecorded}
use Rattle.trace_pass.proofs.PartLemmas.{recorded_one}
use Rattle.trace_pass.proofs.workers.offer_part.Goals as goal

pub returns-clause-ok : goal.returns-clause-ok
returns-clause-ok g c =
    let e = c.in-Ok-offer_each.ensures in
    subst (λ (h : Holding). HasRecorded c.args.recorder.now c.args.every c.args.worker c.args.part h c.in-Ok-offer_each.lines.items) (sym c.stop-stopped.ensures.pass)
    (recorded_one c.args.recorder.now c.args.every c.args.worker c.args.part c.offer_each.new.part c.in-Ok-offer_each.lines.items c.requires.one e.same.0 e.same.1 e.all c.stop-stopped.ensures.rows e.ok)
