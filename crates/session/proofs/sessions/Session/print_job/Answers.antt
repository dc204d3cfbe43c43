use Rattle.std.proofs.Common.{List, ◌∷◌, [], refl}
use Rattle.session_rules.specs.KeptTraces.{Kept}
use Rattle.session_rules.specs.Parts.{EvidenceOf}
use Rattle.session_rules.specs.Sessions.{verify_parts, why_parts}
use Rattle.session_rules.specs.declared.job.Job.TheVariants.{Evidence, Verify, Why}
use Rattle.view_rows.proofs.ReportPrintLemmas.{one_part}
use Rattle.session.proofs.ControlLemmas.{view_step}
use Rattle.session.proofs.sessions.Session.print_job.Goals as goal

pub returns-in-Why-clause-stepped : goal.returns-in-Why-clause-stepped
returns-in-Why-clause-stepped g c =
    let listed = c.refutations_are_listed.ensures in
    rw c.in-Why.is (view_step g.S.Sink.written g.S.Sink.faults Why (λ (kept : List Kept). why_parts kept (listed kept).0) (λ w s. (refl, ((listed s.kept).0, (listed s.kept).1, refl))) _ _ c.self.view_is c.print_certificate.result _ _ _ _
    (λ kept shown. c.print_certificate.ensures.printed kept shown (listed kept).0 (listed kept).1))

pub returns-in-Verify-clause-stepped : goal.returns-in-Verify-clause-stepped
returns-in-Verify-clause-stepped g c =
    let claims = c.in-Verify.claims in
    let told = c.claims_have_verdicts.ensures in
    rw c.in-Verify.is (view_step g.S.Sink.written g.S.Sink.faults (Verify claims) (λ (kept : List Kept). verify_parts claims (told kept claims).0) (λ w s. (refl, ((told s.kept claims).0, (told s.kept claims).1, refl))) _ _ c.self.view_is c.print_verdicts.result _ _ _ _
    (λ kept shown. rw c.items.ensures at (c.print_verdicts.ensures.printed kept shown (told kept claims).0 (rw c.items.ensures (told kept claims).1))))

pub returns-in-Evidence-clause-stepped : goal.returns-in-Evidence-clause-stepped
returns-in-Evidence-clause-stepped g c =
    let choice = c.in-Evidence.choice in
    rw c.in-Evidence.is (view_step g.S.Sink.written g.S.Sink.faults (Evidence choice) (λ (kept : List Kept). EvidenceOf choice kept ∷ []) (λ w s. (refl, refl)) _ _ c.self.view_is c.print_evidence.result _ _ _ _
    (λ kept shown. one_part g.S.Sink.written g.S.Sink.faults (EvidenceOf choice kept) c.print_evidence.result _ _ _ _ (c.print_evidence.ensures.printed kept shown)))
