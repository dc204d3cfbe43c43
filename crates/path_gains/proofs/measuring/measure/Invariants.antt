use Rattle.std.proofs.Common.{◌≡◌, ℕ, ◌<◌, length, get_or}
use Rattle.path_gains.specs.Gains.{IsGain}
use Rattle.path_gains.specs.declared.gain.Gain.{Gain}
use Rattle.path_gains.proofs.measuring.measure.Given as goal

abbrev pub invariant-vertices : goal.invariant-vertices
invariant-vertices g l = (length l.gains.items ≡ l.vertex) × ((k : ℕ) (d : Gain) → k < l.vertex → IsGain l.dag k (get_or l.gains.items k d))
