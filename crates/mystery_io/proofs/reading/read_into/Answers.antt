use Rattle.std.proofs.Common.{◌≡◌, ◌∙◌, arith, length, refl, subst, sym}
use Rattle.std.proofs.lemmas.Result.{err_from_is_err_and}
use Rattle.mystery_io.specs.Input.{input_read}
use Rattle.mystery_io.specs.ReadFaults.{FilesSeen, OpensFirst, files_seen}
use Rattle.mystery_io.proofs.ContentLemmas.{all_taken}
use Rattle.mystery_io.proofs.GivenLemmas.{new_none}
use Rattle.mystery_io.proofs.OpenLemmas.{calls_more, ended_are, file_read, input_is, opens_none, opens_read, read_cause}
use Rattle.mystery_io.proofs.reading.read_into.Goals as goal

pub returns-in_err-feeder-clause-cause : goal.returns-in_err-feeder-clause-cause
returns-in_err-feeder-clause-cause g c =
    let F = g.F.Files in
    let p = err_from_is_err_and c.from_residual.result c.from_residual.ensures.1 in
    rw (p.1, p.2) (0, opens_none _ _ refl (new_none (F.given c.args.files.now) (F.given c.args.files.now) refl))

pub loop-name-preserved : goal.loop-name-preserved
loop-name-preserved g c =
    let at = c.loop-name.invariant in
    let file = c.in_ok-read_file.ensures in
    record {
      index = omega (arith, at.index);
      opens = calls_more _ _ _ _ at.opens file.opens;
      tallied = file.tallied ∙ at.tallied;
      sound = file.sound;
      lines = file.lines;
      read = file_read g.I.Intake.took _ _ _ _ c.name-item.result _ _ _ c.loop-name-test.true c.name-item.is at.read file.takes;
    }

pub returns-in_err-read_file-clause-cause : goal.returns-in_err-read_file-clause-cause
returns-in_err-read_file-clause-cause g c =
    let F = g.F.Files in
    let p = err_from_is_err_and c.from_residual-in_err-read_file.result c.from_residual-in_err-read_file.ensures.1 in
    let at = c.loop-name.invariant in
    let seen : FilesSeen = files_seen F.given F.opens c.args.files.now c.read_file.new.files in
    rw (p.1, p.2) (read_cause g.I.Intake.took c.loop-name.feeder seen _ c.loop-name.index c.loop-name.name-index c.name-item.result _ _ _ c.loop-name-test.true c.name-item.is refl
    (calls_more _ _ _ _ at.opens c.read_file.ensures.opens) at.sound.fits at.index at.read _ c.in_err-read_file.ensures.cause)

pub returns-in_err-flush-clause-cause : goal.returns-in_err-flush-clause-cause
returns-in_err-flush-clause-cause g c =
    let F = g.F.Files in
    let p = err_from_is_err_and c.from_residual-in_err-flush.result c.from_residual-in_err-flush.ensures.1 in
    let at = c.loop-name.invariant in
    let seen : FilesSeen = files_seen F.given F.opens c.args.files.now c.loop-name.files in
    rw (p.1, p.2) (c.loop-name.name-index, opens_read g.I.Intake.took c.loop-name.feeder seen _ _ _ _ refl (omega arith) at.opens at.read)

pub returns-clause-input : goal.returns-clause-input
returns-clause-input g c =
    let took = g.I.Intake.took in
    let at = c.loop-name.invariant in
    let flushed = c.in_ok-flush.ensures in
    let all = input_read at.read.readings in
    subst (took c.flush.new.self.intake) (sym (input_is took c.loop-name.feeder _ _ _ at.read)) (all_taken took _ all (flushed.keeps.all all at.read.holds) flushed.emptied)

pub returns-clause-ended : goal.returns-clause-ended
returns-clause-ended g c = ended_are g.I.Intake.took c.loop-name.feeder _ _ _ c.loop-name.invariant.read

pub returns-clause-opened : goal.returns-clause-opened
returns-clause-opened g c =
    let F = g.F.Files in
    let at = c.loop-name.invariant in
    let seen : FilesSeen = files_seen F.given F.opens c.args.files.now c.loop-name.files in
    let all : c.loop-name.name-index ≡ length c.args.names.now = omega arith in
    subst (OpensFirst seen c.args.names.now) all (opens_read g.I.Intake.took c.loop-name.feeder seen c.args.names.now c.loop-name.name-index _ _ refl (omega arith) at.opens at.read)
