use Rattle.thread_steps.proofs.KeyLemmas.{steps_differ}
use Rattle.thread_steps.proofs.laws.steps_differ.Goals as goal

pub returns : goal.returns
returns c = steps_differ
