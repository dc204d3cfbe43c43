use Rattle.refute_tests.proofs.ExactLemmas.{early_from, early_means}
use Rattle.refute_tests.proofs.laws.starts_early_tells.Goals as goal

pub returns : goal.returns
returns c = λ trace t s. (early_means trace s t, early_from trace s t)
