use Rattle.std.proofs.Common.{[]}
use Rattle.std.proofs.lemmas.Result.{err_from_is_err_and}
use Rattle.line_split.specs.inner.Calls.{call_of_line}
use Rattle.line_split.proofs.RunLemmas.{explains_stop, flush_runs}
use Rattle.line_split.proofs.program.split_into.Goals as goal

pub returns-in_err-split_files-clause-runs : goal.returns-in_err-split_files-clause-runs
returns-in_err-split_files-clause-runs g c =
    let p = err_from_is_err_and c.from_residual.result c.from_residual.ensures.1 in
    let call = call_of_line c.args.call in
    let s = c.in_err-split_files.ensures.stops in
    rw (p.1, p.2) (λ before told.
    let at = s.stops before told in
    record {
      readings = s.readings;
      made = at.begun.made;
      given = s.given;
      written = at.begun.split;
      explains = explains_stop call before (g.P.OutputFiles.written c.split_files.new.outputs) s.readings c.in_err-split_files.field-0.0 s.reads at;
    })

pub returns-clause-runs : goal.returns-clause-runs
returns-clause-runs g c = λ before told.
    let s = c.in_ok-split_files.ensures.split in
    flush_runs (call_of_line c.args.call) before _ _ _ _ c.split_files.new.pending s.readings c.flush_all.result s.given s.reads s.split.good (s.split.told before [] told) c.flush_all.ensures.whole c.flush_all.ensures.begun c.flush_all.ensures.stored
