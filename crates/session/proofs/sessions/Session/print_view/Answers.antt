use Rattle.std.proofs.Common.{List, ◌∷◌, [], length, map, codes, refl}
use Rattle.std.proofs.lemmas.Result.{err_from_is_err_and}
use Rattle.event_lines.specs.declared.command.Command.TheVariants as commands
use Rattle.session_rules.specs.Parts.{DigestOf, GraphOf, Header, ModelOf, PathOf, SlacksOf}
use Rattle.session_rules.specs.Sessions.{report_parts}
use Rattle.session_rules.specs.declared.job.Job.TheVariants.{Control}
use Rattle.view_rows.proofs.ReportPrintLemmas.{one_part}
use Rattle.session.proofs.ControlLemmas.{judged_step, unbegun_view}
use Rattle.session.proofs.sessions.Session.print_view.Goals as goal

pub returns-in_err-judged-clause-stepped : goal.returns-in_err-judged-clause-stepped
returns-in_err-judged-clause-stepped g c =
    let p = err_from_is_err_and c.from_residual.result c.from_residual.ensures.1 in
    rw (p.1, p.2) (unbegun_view g.S.Sink.written g.S.Sink.faults c.parts_follow.ensures.unbegun c.names_are_listed.ensures c.args.command c.requires c.args.self.now c.args.sink.now c.args.buffer.now)

pub returns-in-Model-clause-stepped : goal.returns-in-Model-clause-stepped
returns-in-Model-clause-stepped g c =
    rw c.in-Model.is (judged_step g.S.Sink.written g.S.Sink.faults (Control commands.Model) (λ given kept. ModelOf given kept ∷ []) (λ w s. (refl, refl)) c.args.self.now c.print_model.result _ _ _ _
    (λ s shown. one_part g.S.Sink.written g.S.Sink.faults (ModelOf s.given s.kept) c.print_model.result _ _ _ _ (c.print_model.ensures.printed s.given s.kept (c.in_ok-judged.ensures s shown))))

pub returns-in-Paths-clause-stepped : goal.returns-in-Paths-clause-stepped
returns-in-Paths-clause-stepped g c =
    rw c.in-Paths.is (judged_step g.S.Sink.written g.S.Sink.faults (Control commands.Paths) (λ given kept. Header (codes "paths") (length kept) ∷ map (PathOf given kept) kept) (λ w s. (refl, refl)) c.args.self.now c.print_paths.result _ _ _ _
    (λ s shown. c.print_paths.ensures.printed s.given s.kept (c.in_ok-judged.ensures s shown)))

pub returns-in-Slack-clause-stepped : goal.returns-in-Slack-clause-stepped
returns-in-Slack-clause-stepped g c =
    rw c.in-Slack.is (judged_step g.S.Sink.written g.S.Sink.faults (Control commands.Slack) (λ given kept. Header (codes "slack") (length kept) ∷ map (SlacksOf given kept) kept) (λ w s. (refl, refl)) c.args.self.now c.print_slacks.result _ _ _ _
    (λ s shown. c.print_slacks.ensures.printed s.given s.kept (c.in_ok-judged.ensures s shown)))

pub returns-in-Report-clause-stepped : goal.returns-in-Report-clause-stepped
returns-in-Report-clause-stepped g c =
    let listed = c.names_are_listed.ensures in
    rw c.in-Report.is (judged_step g.S.Sink.written g.S.Sink.faults (Control commands.Report) (λ given kept. report_parts given kept (listed kept).0) (λ w s. (refl, ((listed s.kept).0, (listed s.kept).1, refl))) c.args.self.now c.print_report.result _ _ _ _
    (λ s shown. c.print_report.ensures.printed s.given s.kept (c.in_ok-judged.ensures s shown) (listed s.kept).0 (listed s.kept).1))

pub returns-in-Graph-clause-stepped : goal.returns-in-Graph-clause-stepped
returns-in-Graph-clause-stepped g c =
    rw c.in-Graph.is (judged_step g.S.Sink.written g.S.Sink.faults (Control commands.Graph) (λ given kept. Header (codes "graph") (length kept) ∷ map (GraphOf given kept) kept) (λ w s. (refl, refl)) c.args.self.now c.print_graphs.result _ _ _ _
    (λ s shown. c.print_graphs.ensures.printed s.given s.kept (c.in_ok-judged.ensures s shown)))

pub returns-in-Summarize-clause-stepped : goal.returns-in-Summarize-clause-stepped
returns-in-Summarize-clause-stepped g c =
    rw c.in-Summarize.is (judged_step g.S.Sink.written g.S.Sink.faults (Control commands.Summarize) (λ given kept. DigestOf given kept ∷ []) (λ w s. (refl, refl)) c.args.self.now c.print_digest.result _ _ _ _
    (λ s shown. one_part g.S.Sink.written g.S.Sink.faults (DigestOf s.given s.kept) c.print_digest.result _ _ _ _ (c.print_digest.ensures.printed s.given s.kept (c.in_ok-judged.ensures s shown))))
