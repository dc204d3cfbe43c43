use Rattle.context_names.specs.inner.Keys.{lent_bases}
use Rattle.context_names.proofs.MachineLemmas.{machines_more}
use Rattle.context_names.proofs.machines.find_machines.Goals as goal

pub loop-span-preserved : goal.loop-span-preserved
loop-span-preserved c =
    machines_more c.args.spans.now c.loop-span.span-index c.span-item.result (lent_bases c.loop-span.machines.keys) (lent_bases c.put_machine.new.machines.keys) c.as_str.result.now c.loop-span-test.true c.span-item.is c.loop-span.invariant c.as_str.ensures c.in_ok-put_machine.ensures
