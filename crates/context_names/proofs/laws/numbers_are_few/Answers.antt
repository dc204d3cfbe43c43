use Rattle.context_names.proofs.LawLemmas.{numbers_few}
use Rattle.context_names.proofs.laws.numbers_are_few.Goals as goal

pub returns : goal.returns
returns c = numbers_few
