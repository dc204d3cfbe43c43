use Rattle.std.proofs.Common.{◌≡◌, take}
use Rattle.context_names.specs.Tasks.{first_of_threads}
use Rattle.context_names.proofs.tasks.find_first.Given as goal

-- those of the contexts so far that begin threads
abbrev pub invariant-loop-number : goal.invariant-loop-number
invariant-loop-number l = l.first.items ≡ first_of_threads (take l.number-index l.order) l.threads
