use Rattle.call_contexts.specs.Contexts.{frames_of}
use Rattle.call_contexts.proofs.ThreadLemmas.{AreThreadsTo}
use Rattle.call_contexts.proofs.threads.find_threads.Given as goal

-- the threads of the contexts so far
abbrev pub invariant-loop-at : goal.invariant-loop-at
invariant-loop-at l = AreThreadsTo (frames_of l.contexts) l.forked l.at l.threads.items
