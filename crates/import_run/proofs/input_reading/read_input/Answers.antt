use Rattle.std.proofs.Common.{◌∙◌, arith, refl}
use Rattle.std.proofs.lemmas.Result.{err_from_is_err_and}
use Rattle.mystery_io.specs.ReadFaults.{FilesSeen, files_seen}
use Rattle.import_run.specs.CommandLines.{file_names}
use Rattle.import_run.proofs.InputLemmas.{calls_more, file_read, has_input, names_few, stops}
use Rattle.import_run.proofs.input_reading.read_input.Goals as goal

pub returns-in_err-size-clause-cause : goal.returns-in_err-size-clause-cause
returns-in_err-size-clause-cause g c =
    let F = g.F.Files in
    let p = err_from_is_err_and c.from_residual.result c.from_residual.ensures.1 in
    let at = c.loop-index.invariant in
    let names = file_names c.args.words.now in
    let seen : FilesSeen = files_seen F.given F.opens c.args.files.now c.read_one.new.files in
    rw (p.1, p.2) (stops names c.loop-index.index c.name_at-name.result.now c.name_at-name.ensures c.args.form seen c.loop-index.input c.loop-index.size _ _ _ refl (calls_more _ _ _ _ at.opens c.read_one.ensures.opens) at.read at.form _ c.in_err-size.ensures.cause)

pub loop-index-preserved : goal.loop-index-preserved
loop-index-preserved g c =
    let at = c.loop-index.invariant in
    let one = c.in_ok-size.ensures in
    let names = file_names c.args.words.now in
    record {
      opens = calls_more _ _ _ _ at.opens one.opens;
      tallied = one.tallied ∙ at.tallied;
      form = one.form ∙ at.form;
      size = one.reads.fits;
      read = file_read names c.loop-index.index c.name_at-name.result.now c.name_at-name.ensures c.loop-index.input c.read_one.new.input c.loop-index.size c.in_ok-size.size _ _ _ at.read one.reads;
    }

pub returns-clause-input : goal.returns-clause-input
returns-clause-input g c =
    let F = g.F.Files in
    let at = c.loop-index.invariant in
    let names = file_names c.args.words.now in
    let seen : FilesSeen = files_seen F.given F.opens c.args.files.now c.loop-index.files in
    has_input names c.loop-index.index c.args.form seen c.loop-index.size _ _ (omega (arith, c.loop-index-test.false, c.count_files-index-end.ensures)) (omega (arith, c.loop-index.auto.index-end, c.count_files-index-end.ensures)) (names_few c.args.words.now c.requires) refl at.opens c.loop-index.input at.read at.form
