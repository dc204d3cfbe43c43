use Rattle.std.proofs.Common.{◌≡◌, map, take}
use Rattle.call_contexts.specs.Contexts.{frames_of}
use Rattle.context_names.specs.Bases.{frame_of_number}
use Rattle.context_names.specs.Pieces.{thread_above}
use Rattle.context_names.proofs.pieces.threads_above.Given as goal

-- the threads above the contexts so far
abbrev pub invariant-loop-number : goal.invariant-loop-number
invariant-loop-number l = l.above.items ≡ map (λ x. thread_above l.threads (frame_of_number (frames_of l.contexts) x).above x) (take l.number-index l.list)
