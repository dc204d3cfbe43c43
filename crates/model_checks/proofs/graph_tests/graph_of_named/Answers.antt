use Rattle.std.proofs.Common.{ℕ, ap, sym, subst}
use Rattle.refute_tests.specs.Clearing.{HaveNamesBelow}
use Rattle.model_meet.specs.ModelStates.{ModelState}
use Rattle.model_checks.proofs.graph_tests.graph_of_named.Goals as goal

pub graph-requires : goal.graph-requires
graph-requires c =
    let names = ap (λ (m : ModelState). m.names) c.new-model.ensures in
    subst (λ (n : ℕ). HaveNamesBelow n c.in_ok-trace.trace.now) (sym names) (c.is_below.ensures c.if-not-is_below.false)
