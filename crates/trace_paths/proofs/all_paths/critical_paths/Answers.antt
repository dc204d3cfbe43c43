use Rattle.std.proofs.Common.{IfOk, subst}
use Rattle.std.specs.Borrow.{Bor}
use Rattle.std.specs.List.{AllZip}
use Rattle.model_meet.specs.ModelStates.{ModelState}
use Rattle.trace_paths.specs.NumberedPaths.{IsPathUnder}
use Rattle.trace_types.specs.declared.named_trace.NamedTrace.{NamedTrace}
use Rattle.trace_paths.proofs.all_paths.critical_paths.Goals as goal

pub returns : goal.returns
returns g c =
    subst (λ (m : ModelState). IfOk c.paths_by.result (λ paths. AllZip (λ (t : Bor NamedTrace) path. IsPathUnder m t.now path) c.args.traces.now paths.items)) c.in_ok-exclusions.ensures c.paths_by.ensures
