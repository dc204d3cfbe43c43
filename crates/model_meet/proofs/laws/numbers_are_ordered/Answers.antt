use Rattle.model_meet.proofs.CountLemmas.{numbers_are_ordered}
use Rattle.model_meet.proofs.laws.numbers_are_ordered.Goals as goal

pub returns : goal.returns
returns c = numbers_are_ordered
