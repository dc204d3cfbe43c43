use Rattle.slow_tail.proofs.TailLemmas.{adds_up}
use Rattle.slow_tail.proofs.laws.paths_add_up.Goals as goal

pub returns : goal.returns
returns g c = λ p same name latencies paths many. adds_up p same name latencies paths many
