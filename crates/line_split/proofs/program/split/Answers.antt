use Rattle.std.proofs.Common.{[], append-nil, refl, sym}
use Rattle.std.proofs.lemmas.List.Elements.{All-nil}
use Rattle.std.proofs.lemmas.Result.{err_from_is_err_and}
use Rattle.line_split.specs.Lines.{IsGood}
use Rattle.line_split.specs.inner.Calls.{call_of_line}
use Rattle.line_split.proofs.RunLemmas.{explains_store, reads_none}
use Rattle.line_split.proofs.program.split.Goals as goal

pub returns-in_err-pending-clause-runs : goal.returns-in_err-pending-clause-runs
returns-in_err-pending-clause-runs g c =
    let p = err_from_is_err_and c.from_residual.result c.from_residual.ensures.1 in
    let call = call_of_line c.args.call in
    let b = c.in_err-pending.ensures.begun in
    rw (p.1, p.2) (record {
      readings = [];
      made = b.made;
      given = sym (append-nil (g.F.Files.given c.args.files.now));
      written = b.split;
      explains = explains_store call _ _ [] [] [] c.in_err-pending.field-0.0 c.in_err-pending.ensures.stored (reads_none call [] refl) refl (All-nil IsGood) b;
    })
