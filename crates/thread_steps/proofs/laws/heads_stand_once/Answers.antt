use Rattle.thread_steps.proofs.LawLemmas.{heads_stand_once}
use Rattle.thread_steps.proofs.laws.heads_stand_once.Goals as goal

pub returns : goal.returns
returns c = heads_stand_once
