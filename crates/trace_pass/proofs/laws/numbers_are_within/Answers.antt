use Rattle.trace_pass.proofs.LawLemmas.{numbers_are_within}
use Rattle.trace_pass.proofs.laws.numbers_are_within.Goals as goal

pub returns : goal.returns
returns c = numbers_are_within c.lacks_append.ensures c.block_lacks.ensures
