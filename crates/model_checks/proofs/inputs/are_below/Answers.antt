use Rattle.std.proofs.Common.{arith, subst, All}
use Rattle.std.proofs.lemmas.List.{take_all}
use Rattle.std.proofs.lemmas.List.Elements.{All-more}
use Rattle.refute_tests.specs.Clearing.{HaveNamesBelow}
use Rattle.model_checks.proofs.inputs.are_below.Goals as goal

pub loop-trace-preserved : goal.loop-trace-preserved
loop-trace-preserved c = All-more (HaveNamesBelow c.args.names) c.args.traces.now c.loop-trace.trace-index c.trace-item.result (omega arith) c.loop-trace.invariant
    (subst (HaveNamesBelow c.args.names) c.trace-item.is (c.is_below.ensures c.if-not-is_below.false))

pub returns : goal.returns
returns c = λ _. subst (λ ts. All (HaveNamesBelow c.args.names) ts) (take_all c.loop-trace.trace-index c.args.traces.now (omega arith)) c.loop-trace.invariant
