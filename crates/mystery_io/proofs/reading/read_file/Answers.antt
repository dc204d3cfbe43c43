use Rattle.std.proofs.Common.{◌≡◌, ◌∙◌, rules, sym}
use Rattle.std.proofs.lemmas.Result.{IfErr-weaker, err_from_is_err_and}
use Rattle.trace_types.proofs.TruthLemmas.{on_ok}
use Rattle.mystery_io.specs.Readings.{after_open}
use Rattle.mystery_io.specs.declared.reading.ReadFault.{ReadFault}
use Rattle.mystery_io.specs.inner.Feeding.{EndsLine, FeedsFile}
use Rattle.mystery_io.specs.inner.FileCauses.{HasFileCause, IsPassedByFeed}
use Rattle.mystery_io.proofs.ContentLemmas.{cause_opened, file_came, passed_by_feed}
use Rattle.mystery_io.proofs.reading.read_file.Goals as goal

pub returns-in_err-read_rest-clause-cause : goal.returns-in_err-read_rest-clause-cause
returns-in_err-read_rest-clause-cause g c =
    let F = g.F.Files in
    let before = F.given c.args.files.now in
    let opened : F.given c.open.new.self ≡ after_open before c.args.name.now = search rules in
    let p = err_from_is_err_and c.from_residual.result c.from_residual.ensures.1 in
    rw (p.1, p.2) (cause_opened _ _ _ c.args.name.now before (F.given c.open.new.self) _ opened c.in_err-read_rest.ensures.cause)

pub returns-clause-tallied : goal.returns-clause-tallied
returns-clause-tallied g c =
    let F = g.F.Files in
    let none : F.faults c.read_rest.new.files ≡ F.faults c.args.files.now = search rules in
    none ∙ sym (c.end_line.ensures.tallied _)

pub returns-clause-takes : goal.returns-clause-takes
returns-clause-takes g c =
    let F = g.F.Files in
    let took = g.I.Intake.took in
    let before = F.given c.args.files.now in
    let now = F.given c.read_rest.new.files in
    let opened : F.given c.open.new.self ≡ after_open before c.args.name.now = search rules in
    on_ok c.end_line.result (EndsLine took c.read_rest.new.feeder c.end_line.new.feeder) (FeedsFile took c.args.feeder.now c.end_line.new.feeder c.args.name.now before now)
    (file_came took c.args.feeder.now c.read_rest.new.feeder c.end_line.new.feeder c.args.name.now before (F.given c.open.new.self) now c.requires.lines opened c.in_ok-read_rest.ensures.takes) c.end_line.ensures.feeds

pub returns-clause-cause : goal.returns-clause-cause
returns-clause-cause g c =
    let F = g.F.Files in
    let took = g.I.Intake.took in
    let before = F.given c.args.files.now in
    let now = F.given c.read_rest.new.files in
    let opened : F.given c.open.new.self ≡ after_open before c.args.name.now = search rules in
    IfErr-weaker c.end_line.result (IsPassedByFeed c.read_rest.new.feeder.count c.read_rest.new.feeder.ends_line) (HasFileCause c.args.index c.args.feeder.now.count c.args.name.now before now)
    (λ (e : ReadFault) h. passed_by_feed took c.args.feeder.now c.read_rest.new.feeder e c.args.index c.args.name.now before (F.given c.open.new.self) now c.requires.lines opened c.in_ok-read_rest.ensures.takes h) c.end_line.ensures.cause
