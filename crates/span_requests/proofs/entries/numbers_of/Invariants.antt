use Rattle.std.proofs.Common.{◌≡◌, take}
use Rattle.span_requests.specs.inner.EntryKeys.{indexes_of}
use Rattle.span_requests.proofs.entries.numbers_of.Given as goal

-- the numbers of the keys so far
abbrev pub invariant-loop-key : goal.invariant-loop-key
invariant-loop-key l = l.numbers.items ≡ indexes_of (take l.key-index l.keys)
