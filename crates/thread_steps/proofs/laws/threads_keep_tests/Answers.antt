use Rattle.thread_steps.proofs.CallLemmas.{threads_keep_tests}
use Rattle.thread_steps.proofs.laws.threads_keep_tests.Goals as goal

pub returns : goal.returns
returns c = threads_keep_tests
