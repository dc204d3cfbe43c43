use Rattle.std.proofs.Common.{refl}
use Rattle.std.proofs.lemmas.Result.{err_from_is_err_and}
use Rattle.line_split.specs.declared.split_fault.SplitFault.TheVariants.{Memory}
use Rattle.line_split.specs.inner.Calls.{call_of_line}
use Rattle.line_split.proofs.PutLemmas.{splits_stop}
use Rattle.line_split.proofs.chunk.split_known_lines.Goals as goal

pub returns-in_err-lines-clause-split : goal.returns-in_err-lines-clause-split
returns-in_err-lines-clause-split g c = λ n num.
    let p = err_from_is_err_and c.from_residual.result c.from_residual.ensures.1 in
    rw (p.1, p.2) (splits_stop (call_of_line c.args.call) g.P.OutputFiles.written g.P.OutputFiles.faults Memory _ c.args.files.now c.args.pending.now c.args.pending.now tt refl (λ count. refl))
