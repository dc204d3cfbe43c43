use Rattle.thread_steps.proofs.LawLemmas.{each_stands_once}
use Rattle.thread_steps.proofs.laws.each_stands_once.Goals as goal

pub returns : goal.returns
returns c = each_stands_once
