use Rattle.drill_input.proofs.LengthLemmas.{input_short}
use Rattle.drill_input.proofs.laws.input_is_short.Goals as goal

pub returns : goal.returns
returns c = input_short
