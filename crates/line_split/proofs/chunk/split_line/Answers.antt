use Rattle.std.proofs.Common.{◌∙◌, ℕ, [], Ok, Option, ap, refl, sym}
use Rattle.std.proofs.lemmas.Result.{err_from_is_err_and}
use Rattle.line_split.specs.Lines.{FileLine}
use Rattle.line_split.specs.declared.split_fault.SplitFault.TheVariants.{BadLine, Memory}
use Rattle.line_split.specs.inner.Calls.{call_of_line}
use Rattle.line_split.proofs.PartLemmas.{bad_said}
use Rattle.line_split.proofs.PutLemmas.{splits_blank, splits_stop}
use Rattle.line_split.proofs.chunk.split_line.Goals as goal

pub returns-in_err-part : goal.returns-in_err-part
returns-in_err-part g c = λ n num.
    let p = err_from_is_err_and c.from_residual.result c.from_residual.ensures.1 in
    rw (p.1, p.2) (splits_stop (call_of_line c.args.call) g.P.OutputFiles.written g.P.OutputFiles.faults Memory _ c.args.files.now c.args.pending.now c.args.pending.now tt refl (λ count. refl))

pub returns-in-Ok-None : goal.returns-in-Ok-None
returns-in-Ok-None g c = λ n num.
    splits_blank (call_of_line c.args.call) g.P.OutputFiles.written g.P.OutputFiles.faults _ (record { file = c.args.file; number = n; bytes = c.args.line.now }) c.args.files.now c.args.pending.now (sym c.in_ok-part.ensures.part ∙ c.in-Ok-None.is ∙ ap (λ (o : Option ℕ). Ok o) c.in-Ok-None.field-0-is) c.requires.fits

pub returns-in-Err : goal.returns-in-Err
returns-in-Err g c = λ n num.
    let line : FileLine = record { file = c.args.file; number = n; bytes = c.args.line.now } in
    splits_stop (call_of_line c.args.call) g.P.OutputFiles.written g.P.OutputFiles.faults (BadLine c.args.file c.args.number c.in-Err.why) _ c.args.files.now c.args.pending.now c.args.pending.now (line, [], refl, bad_said (call_of_line c.args.call) _ c.in-Err.why (sym c.in_ok-part.ensures.part ∙ c.in-Err.is), refl, num) refl (λ count. refl)
