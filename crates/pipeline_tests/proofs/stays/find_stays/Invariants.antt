use Rattle.pipeline_tests.specs.inner.Stays.{AreStays}
use Rattle.pipeline_tests.proofs.stays.find_stays.Given as goal

abbrev pub invariant-loop-index : goal.invariant-loop-index
invariant-loop-index l = AreStays l.trace l.index l.stays.items
