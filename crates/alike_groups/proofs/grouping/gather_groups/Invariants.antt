use Rattle.std.proofs.Common.{take}
use Rattle.alike_groups.specs.inner.Grouping.{AreGrouped}
use Rattle.alike_groups.proofs.grouping.gather_groups.Given as goal

-- the elements so far are grouped
abbrev pub invariant-elements : goal.invariant-elements
invariant-elements g l = AreGrouped g.K.PartialEq.eq (take l.index l.elements) l.groups
