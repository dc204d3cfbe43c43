use Rattle.trace_pass.proofs.LawLemmas.{shares_are_whole}
use Rattle.trace_pass.proofs.laws.shares_are_whole.Goals as goal

pub returns : goal.returns
returns c = shares_are_whole
