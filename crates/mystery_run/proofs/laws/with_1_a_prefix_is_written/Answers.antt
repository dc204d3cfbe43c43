use Rattle.std.proofs.Common.{refl}
use Rattle.mystery_run.specs.Messages.{status_of}
use Rattle.mystery_run.specs.Runs.{EndsAs}
use Rattle.mystery_run.proofs.StatusLemmas.{of_memory}
use Rattle.mystery_run.proofs.laws.with_1_a_prefix_is_written.Goals as goal

pub returns : goal.returns
returns c = λ o seen h k. of_memory (λ p. EndsAs p seen) o (status_of o) refl h.ends k
