use Rattle.thread_steps.proofs.CallLemmas.{threads_are_of_calls_below}
use Rattle.thread_steps.proofs.laws.threads_are_of_calls_below.Goals as goal

pub returns : goal.returns
returns c = threads_are_of_calls_below
