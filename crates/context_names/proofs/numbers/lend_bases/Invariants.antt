use Rattle.std.proofs.Common.{◌≡◌, map, take}
use Rattle.context_names.specs.Numbers.{base_at}
use Rattle.context_names.specs.inner.Keys.{lent_bases}
use Rattle.context_names.proofs.numbers.lend_bases.Given as goal

-- the bases of the numbers so far
abbrev pub invariant-loop-number : goal.invariant-loop-number
invariant-loop-number l = lent_bases l.lent.items ≡ map (base_at l.bases) (take l.number-index l.order)
