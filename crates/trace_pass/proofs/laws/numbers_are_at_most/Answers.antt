use Rattle.trace_pass.proofs.LawLemmas.{numbers_are_at_most}
use Rattle.trace_pass.proofs.laws.numbers_are_at_most.Goals as goal

pub returns : goal.returns
returns c = numbers_are_at_most c.lacks_append.ensures c.block_lacks.ensures
