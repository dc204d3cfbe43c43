use Rattle.std.proofs.Common.{◌∙◌, arith, refl, sym, true}
use Rattle.std.proofs.lemmas.Result.{err_from_is_err_and}
use Rattle.import_run.proofs.TakenLemmas.{quiet_taking, stops_taking}
use Rattle.import_run.proofs.input_reading.read_one.Goals as goal

pub returns-in_err-take_file-in-Ok-clause-tallied : goal.returns-in_err-take_file-in-Ok-clause-tallied
returns-in_err-take_file-in-Ok-clause-tallied g c =
    let p = err_from_is_err_and c.from_residual.result c.from_residual.ensures.1 in
    rw (p.1, p.2) (c.in-Ok.ensures.tallied ∙ sym (quiet_taking _ c.in_err-take_file-in-Ok.ensures.kind (g.F.Files.faults c.args.files.now)))

pub returns-in_err-take_file-in-Ok-clause-cause : goal.returns-in_err-take_file-in-Ok-clause-cause
returns-in_err-take_file-in-Ok-clause-cause g c =
    let p = err_from_is_err_and c.from_residual.result c.from_residual.ensures.1 in
    let fault = rw c.deref.ensures.value at c.in_err-take_file-in-Ok.ensures.cause in
    rw (p.1, p.2) (record {
      reading = record { name = c.args.name.now; bytes = c.in-Ok.bytes.items; at_end = true };
      named = refl;
      given = c.in-Ok.ensures.reads;
      cause = stops_taking c.args.index c.args.size c.args.input.now (record { name = c.args.name.now; bytes = c.in-Ok.bytes.items; at_end = true }) _ c.in_err-take_file-in-Ok.ensures.kind refl (omega (arith, c.in-Ok.ensures.most, c.requires)) fault;
    })
