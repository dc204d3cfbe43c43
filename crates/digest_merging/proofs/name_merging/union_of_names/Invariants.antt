use Rattle.std.proofs.Common.{◌+◌, ◌-◌, length, map}
use Rattle.trace_types.specs.NameOrder.{name_cmp}
use Rattle.digest_facts.proofs.MergeLemmas.{name_apart}
use Rattle.digest_merging.proofs.UnionLemmas.{IsUnionTo}
use Rattle.digest_merging.proofs.name_merging.union_of_names.Given as goal

-- the names so far, and the union of those that are left
abbrev pub invariant-both : goal.invariant-both
invariant-both l = IsUnionTo name_cmp name_apart (map (λ r. r.0) l.first) (map (λ r. r.0) l.second) l.names.items l.i l.j

abbrev pub decreases-both : goal.decreases-both
decreases-both l = (length l.first - l.i) + (length l.second - l.j)
