use Rattle.std.proofs.Common.{ℕ, ◌<◌, [], get_or}
use Rattle.weighted_dag.specs.inner.SuccessorLists.{AreSuccessors}
use Rattle.weighted_dag.proofs.dag.Dag.fits.Given as goal

abbrev pub invariant-vertices : goal.invariant-vertices
invariant-vertices l = (k : ℕ) → k < l.vertex → AreSuccessors k l.order (get_or l.successors k [])
