use Rattle.std.proofs.Common.{Vec, Global}
use Rattle.std.proofs.lemmas.Result.{IfOk-weaker}
use Rattle.span_requests.specs.CallerNumbers.{AreRoots}
use Rattle.span_calls.specs.Calls.{StartInOrder}
use Rattle.span_calls.specs.declared.call.Call.{Call}
use Rattle.call_checks.proofs.worked.calls_of.Goals as goal

pub returns-in-Ok-clause-rise : goal.returns-in-Ok-clause-rise
returns-in-Ok-clause-rise c =
    let r = c.in-Ok.requests in
    IfOk-weaker c.find_calls.result _ _ (λ (v : Vec Call Global) (h : AreRoots r.callers.items r.entries.items → StartInOrder v.items). h c.in-Ok.ensures.requests.roots) c.find_calls.ensures.rise
