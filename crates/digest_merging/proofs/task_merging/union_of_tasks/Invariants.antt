use Rattle.std.proofs.Common.{◌+◌, ◌-◌, length, map}
use Rattle.std.specs.Cmp.Lexicographic.{slice_cmp}
use Rattle.std.specs.Ordering.{nat_cmp}
use Rattle.digest_facts.proofs.MergeLemmas.{text_apart}
use Rattle.digest_merging.proofs.UnionLemmas.{IsUnionTo}
use Rattle.digest_merging.proofs.task_merging.union_of_tasks.Given as goal

-- the tasks so far, and the union of those that are left
abbrev pub invariant-both : goal.invariant-both
invariant-both l = IsUnionTo (slice_cmp nat_cmp) text_apart (map (λ r. r.0) l.first) (map (λ r. r.0) l.second) l.tasks.items l.i l.j

abbrev pub decreases-both : goal.decreases-both
decreases-both l = (length l.first - l.i) + (length l.second - l.j)
