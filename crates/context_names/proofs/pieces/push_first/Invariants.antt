use Rattle.std.proofs.Common.{take}
use Rattle.context_names.proofs.GroupLemmas.{AreFirstTo}
use Rattle.context_names.proofs.pieces.push_first.Given as goal

-- the first ones of the contexts so far, and the groups that are seen
abbrev pub invariant-loop-number : goal.invariant-loop-number
invariant-loop-number l = AreFirstTo l.groups (take l.number-index l.list) l.first.items l.is_seen
