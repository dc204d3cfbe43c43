use Rattle.row_laws.proofs.CountLemmas.{figures_count}
use Rattle.row_laws.proofs.laws.figures_count_traces.Goals as goal

pub returns : goal.returns
returns g c = λ p same. figures_count p same
