use Rattle.std.proofs.Common.{◌≡◌, ℕ, List, Bor, map, take}
use Rattle.name_patterns.specs.inner.Lists.{bytes_in}
use Rattle.name_patterns.proofs.families.lend_each.Given as goal

-- the bytes of the patterns so far
abbrev pub invariant-patterns : goal.invariant-patterns
invariant-patterns l = map (λ (b : Bor (List ℕ)). b.now) l.lent.items ≡ map bytes_in (take l.index l.patterns)
