use Rattle.trace_pass.proofs.LawLemmas.{count_is_one}
use Rattle.trace_pass.proofs.laws.count_is_one.Goals as goal

pub returns : goal.returns
returns c = count_is_one
