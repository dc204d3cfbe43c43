use Rattle.trace_quality.proofs.LawLemmas.{traces_few}
use Rattle.trace_quality.proofs.laws.traces_are_few.Goals as goal

pub returns : goal.returns
returns c = traces_few
