use Rattle.shared_elements.proofs.ElementLemmas.{CollectedBelow}
use Rattle.shared_elements.proofs.elements.collect_elements.Given as goal

abbrev pub invariant-segments : goal.invariant-segments
invariant-segments l = CollectedBelow l.trace.segments l.index l.task l.elements.items
