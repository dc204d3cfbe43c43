use Rattle.std.proofs.Common.{arith, sym, subst}
use Rattle.std.proofs.lemmas.Grind.{common_steps}
use Rattle.std.proofs.lemmas.List.Elements.{All-push}
use Rattle.std.specs.List.{All}
use Rattle.refute_tests.specs.Clearing.{HaveNamesBelow}
use Rattle.recording_checks.proofs.traces.day_of.Goals as goal

pub loop-k-preserved : goal.loop-k-preserved
loop-k-preserved c = record {
  named = subst (All (HaveNamesBelow 2)) (sym c.in_ok-push.ensures.items) (All-push (HaveNamesBelow 2) c.loop-k.traces.items c.in_ok-trace.trace c.loop-k.invariant.named c.in_ok-trace.ensures);
  count = grind (arith, common_steps);
}
