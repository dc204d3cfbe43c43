use Rattle.thread_steps.proofs.LawLemmas.{no_other_stands}
use Rattle.thread_steps.proofs.laws.no_other_stands.Goals as goal

pub returns : goal.returns
returns c = no_other_stands
