use Rattle.std.proofs.Common.{refl}
use Rattle.std.proofs.lemmas.Result.{err_from_is_err_and}
use Rattle.session_rules.specs.Sessions.{forecast_parts, summary_parts, tail_parts}
use Rattle.session_rules.specs.declared.job.Job.TheVariants.{Summary, Tail, WhatIf}
use Rattle.session.proofs.ControlLemmas.{judged_step, unbegun_job}
use Rattle.session.proofs.sessions.Session.print_judged.Goals as goal

pub returns-in_err-judged-clause-stepped : goal.returns-in_err-judged-clause-stepped
returns-in_err-judged-clause-stepped g c =
    let p = err_from_is_err_and c.from_residual.result c.from_residual.ensures.1 in
    rw (p.1, p.2) (unbegun_job g.S.Sink.written g.S.Sink.faults c.parts_follow.ensures.unbegun c.names_are_listed.ensures c.args.job c.requires.judged c.args.self.now c.args.sink.now c.args.buffer.now)

pub returns-in-Summary-clause-stepped : goal.returns-in-Summary-clause-stepped
returns-in-Summary-clause-stepped g c =
    rw c.in-Summary.is (judged_step g.S.Sink.written g.S.Sink.faults Summary summary_parts (λ w s. (refl, refl)) c.args.self.now c.print_summary.result _ _ _ _
    (λ s shown. c.print_summary.ensures.printed s.given s.kept (c.in_ok-judged.ensures s shown)))

pub returns-in-WhatIf-clause-stepped : goal.returns-in-WhatIf-clause-stepped
returns-in-WhatIf-clause-stepped g c =
    let change = c.in-WhatIf.change in
    rw c.in-WhatIf.is (judged_step g.S.Sink.written g.S.Sink.faults (WhatIf change) (forecast_parts change) (λ w s. (refl, refl)) c.args.self.now c.print_forecasts.result _ _ _ _
    (λ s shown. c.print_forecasts.ensures.printed s.given s.kept (c.in_ok-judged.ensures s shown)))

pub returns-in-Tail-clause-stepped : goal.returns-in-Tail-clause-stepped
returns-in-Tail-clause-stepped g c =
    let listed = c.names_are_listed.ensures in
    rw c.in-Tail.is (judged_step g.S.Sink.written g.S.Sink.faults Tail (λ given kept. tail_parts given kept (listed kept).0) (λ w s. (refl, ((listed s.kept).0, (listed s.kept).1, refl))) c.args.self.now c.print_tail.result _ _ _ _
    (λ s shown. c.print_tail.ensures.printed s.given s.kept (c.in_ok-judged.ensures s shown) (listed s.kept).0 (listed s.kept).1))
