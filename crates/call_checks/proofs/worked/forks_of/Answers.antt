use Rattle.std.proofs.Common.{◌≡◌, ap, arith, length}
use Rattle.std.proofs.lemmas.Result.{IfOk-weaker}
use Rattle.call_trees.proofs.TableLemmas.{length-table}
use Rattle.context_forks.specs.Forks.{forked_of, is_forked}
use Rattle.context_forks.specs.declared.forks.Forks.{Forks}
use Rattle.call_checks.proofs.worked.forks_of.Goals as goal

pub returns-clause-same : goal.returns-clause-same
returns-clause-same c =
    let calls = c.args.calls.now in
    let numbers = c.deref-2.result.now in
    let count = c.len-count.result in
    IfOk-weaker c.find_forks.result _ _ (λ (v : Forks) (h : v.forked.items ≡ forked_of c.args.grace calls numbers count).
    omega (arith, ap length h, length-table (is_forked c.args.grace calls numbers) count, c.len-count.ensures, c.args.contexts.now.contexts.ok.0)) c.find_forks.ensures.forked
