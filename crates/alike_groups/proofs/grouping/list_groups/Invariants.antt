use Rattle.std.proofs.Common.{◌≡◌, List, map, take}
use Rattle.indexmap.specs.IndexMap.{keys}
use Rattle.alike_groups.specs.Groups.{group_of}
use Rattle.alike_groups.specs.inner.Grouping.{AreGrouped}
use Rattle.alike_groups.proofs.grouping.list_groups.Given as goal

-- the groups so far
abbrev pub invariant-entries : goal.invariant-entries
invariant-entries g l = (elements : List _) → AreGrouped g.K.PartialEq.eq elements l.groups → l.list.items ≡ map (group_of g.K.PartialEq.eq elements) (take l.index (keys l.groups))
