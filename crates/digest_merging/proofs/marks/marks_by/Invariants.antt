use Rattle.std.proofs.Common.{◌≡◌, map, take}
use Rattle.digest_merging.specs.inner.MergedRows.{joined_mark, mark_in}
use Rattle.digest_merging.proofs.marks.marks_by.Given as goal

-- the marks so far
abbrev pub invariant-places : goal.invariant-places
invariant-places l = l.marks.items ≡ map (λ q. joined_mark (mark_in l.first q.left) (mark_in l.second q.right)) (take l.place-index l.earlier)
