use Rattle.std.proofs.Common.{◌≡◌, refl}
use Rattle.mystery_run.specs.Messages.{status_of}
use Rattle.mystery_run.specs.Runs.{EndsAs}
use Rattle.mystery_run.proofs.StatusLemmas.{of_bad_line}
use Rattle.mystery_run.proofs.laws.with_3_the_first_bad_line_is_told.Goals as goal

pub returns : goal.returns
returns c = λ o seen h k. let f = of_bad_line (λ p. (o ≡ p) × EndsAs p seen) o (status_of o) refl (refl, h.ends) k in (f.0, f.1, f.2.0, f.2.1)
