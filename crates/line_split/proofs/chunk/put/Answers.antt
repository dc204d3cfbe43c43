use Rattle.std.proofs.Common.{ap, arith, decimal, codes, ◌++◌, ℕ, ◌+◌}
use Rattle.std.proofs.lemmas.Result.{err_from_is_err_and}
use Rattle.line_split.specs.Lines.{FileLine}
use Rattle.line_split.specs.inner.Calls.{call_of_line}
use Rattle.line_split.proofs.PutLemmas.{splits_first, splits_put}
use Rattle.line_split.proofs.chunk.put.Goals as goal

pub returns-in_err-put_line : goal.returns-in_err-put_line
returns-in_err-put_line g c = λ n num is.
    let line : FileLine = record { file = c.args.file; number = n; bytes = c.args.line.now } in
    let p = err_from_is_err_and c.from_residual.result c.from_residual.ensures.1 in
    rw (p.1, p.2) (splits_first (call_of_line c.args.call) g.P.OutputFiles.written g.P.OutputFiles.faults line c.args.part c.requires.within is c.args.files.now c.put_line.new.files c.put_line.new.files c.args.pending.now c.put_line.new.pending c.put_line.new.pending _ c.in_err-put_line.ensures.begun c.in_err-put_line.ensures.stored c.in_err-put_line.ensures.counted)

pub overflow_add-call : goal.overflow_add-call
overflow_add-call g c = omega (arith, c.requires.within, c.requires.most)

pub returns : goal.returns
returns g c = λ n num is.
    let line : FileLine = record { file = c.args.file; number = n; bytes = c.args.line.now } in
    splits_put (call_of_line c.args.call) g.P.OutputFiles.written g.P.OutputFiles.faults line c.args.part c.requires.within is c.args.files.now c.put_line.new.files c.put_origin.new.files c.args.pending.now c.put_line.new.pending c.put_origin.new.pending c.put_origin.result _
    (ap (λ (k : ℕ). decimal (c.args.file + 1) ++ codes "\t" ++ decimal k ++ codes "\n") num)
    c.requires.fits c.in_ok-put_line.ensures.told c.in_ok-put_line.ensures.many c.put_origin.ensures.over c.put_origin.ensures.many c.put_origin.ensures.told c.put_origin.ensures.begun c.put_origin.ensures.stored c.in_ok-put_line.ensures.counted c.put_origin.ensures.counted
