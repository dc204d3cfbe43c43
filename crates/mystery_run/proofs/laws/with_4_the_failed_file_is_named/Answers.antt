use Rattle.std.proofs.Common.{◌≡◌, refl}
use Rattle.mystery_run.specs.Messages.{status_of}
use Rattle.mystery_run.specs.Runs.{Reads}
use Rattle.mystery_run.proofs.StatusLemmas.{of_file}
use Rattle.mystery_run.proofs.laws.with_4_the_failed_file_is_named.Goals as goal

pub returns : goal.returns
returns c = λ o seen h k. let f = of_file (λ p. (o ≡ p) × Reads p seen) o (status_of o) refl (refl, h.reads) k in (f.0, f.1.0, f.1.1.1)
