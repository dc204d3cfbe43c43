use Rattle.std.proofs.Common.{◌∙◌, arith, refl}
use Rattle.std.proofs.lemmas.Result.{err_from_is_err_and}
use Rattle.event_lines.specs.LineParts.{lines_of_runs}
use Rattle.mystery_io.specs.ReadFaults.{FilesSeen, files_seen}
use Rattle.inspect_run.proofs.InputLemmas.{all_judged, all_read, calls_more, few_lines, file_read, none_read, stops}
use Rattle.inspect_run.proofs.JudgingLemmas.{told}
use Rattle.inspect_run.proofs.input_reading.read_input.Goals as goal

pub loop-index-init : goal.loop-index-init
loop-index-init g c =
    let F = g.F.Files in
    let made = c.new-judged.ensures in
    record {
      opens = record { least = omega arith; most = omega arith };
      tallied = refl;
      size = omega arith;
      read = none_read (F.given c.args.files.now) (lines_of_runs c.new-judged.result.runs.items) c.new-judged.result.findings made.lines made.first made.reasons;
    }

pub returns-in_err-size-clause-cause : goal.returns-in_err-size-clause-cause
returns-in_err-size-clause-cause g c =
    let F = g.F.Files in
    let p = err_from_is_err_and c.from_residual.result c.from_residual.ensures.1 in
    let at = c.loop-index.invariant in
    let names = c.args.words.now in
    let seen : FilesSeen = files_seen F.given F.opens c.args.files.now c.read_one.new.files in
    rw (p.1, p.2) (stops names c.loop-index.index c.name_at-name.result.now c.name_at-name.ensures seen (lines_of_runs c.loop-index.judged.runs.items) c.loop-index.judged.findings c.loop-index.size _ _ _ refl (calls_more _ _ _ _ at.opens c.read_one.ensures.opens) at.read _ c.in_err-size.ensures.cause)

pub loop-index-preserved : goal.loop-index-preserved
loop-index-preserved g c =
    let at = c.loop-index.invariant in
    let one = c.in_ok-size.ensures in
    let names = c.args.words.now in
    record {
      opens = calls_more _ _ _ _ at.opens one.opens;
      tallied = one.tallied ∙ at.tallied;
      size = one.reads.fits;
      read = file_read names c.loop-index.index c.name_at-name.result.now c.name_at-name.ensures (lines_of_runs c.loop-index.judged.runs.items) (lines_of_runs c.read_one.new.judged.runs.items) c.loop-index.judged.findings c.read_one.new.judged.findings c.loop-index.size c.in_ok-size.size _ _ _ at.read one.reads;
    }

pub returns-clause-read : goal.returns-clause-read
returns-clause-read g c =
    let F = g.F.Files in
    let at = c.loop-index.invariant in
    let seen : FilesSeen = files_seen F.given F.opens c.args.files.now c.loop-index.files in
    all_read c.args.words.now c.loop-index.index (lines_of_runs c.loop-index.judged.runs.items) c.loop-index.judged.findings c.loop-index.size _ _ (omega (arith, c.loop-index-test.false)) (omega (arith, c.loop-index.auto.index-end)) at.read seen refl at.opens

pub returns-clause-told : goal.returns-clause-told
returns-clause-told g c =
    let at = c.loop-index.invariant in
    told c.args.words.now _ _ _ (all_judged c.args.words.now c.loop-index.index (lines_of_runs c.loop-index.judged.runs.items) c.loop-index.judged.findings c.loop-index.size _ _ (omega (arith, c.loop-index-test.false)) (omega (arith, c.loop-index.auto.index-end)) at.read)

pub returns-clause-few : goal.returns-clause-few
returns-clause-few g c =
    let at = c.loop-index.invariant in
    few_lines c.args.words.now c.loop-index.index (lines_of_runs c.loop-index.judged.runs.items) c.loop-index.judged.findings c.loop-index.size _ _ (omega (arith, c.loop-index-test.false)) (omega (arith, c.loop-index.auto.index-end)) at.read c.requires
