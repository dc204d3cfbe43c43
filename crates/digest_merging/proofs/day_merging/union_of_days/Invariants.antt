use Rattle.std.proofs.Common.{◌+◌, ◌-◌, length}
use Rattle.std.specs.Ordering.{nat_cmp}
use Rattle.digest_facts.proofs.MergeLemmas.{nat_apart}
use Rattle.digest_merging.proofs.UnionLemmas.{IsUnionTo}
use Rattle.digest_merging.proofs.day_merging.union_of_days.Given as goal

-- the days so far, and the union of those that are left
abbrev pub invariant-both : goal.invariant-both
invariant-both l = IsUnionTo nat_cmp nat_apart l.first l.second l.days.items l.i l.j

abbrev pub decreases-both : goal.decreases-both
decreases-both l = (length l.first - l.i) + (length l.second - l.j)
