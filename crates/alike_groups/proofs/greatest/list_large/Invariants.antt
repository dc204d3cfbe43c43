use Rattle.std.proofs.Common.{◌≡◌, filter, take}
use Rattle.std.specs.Prelude.{nat_le}
use Rattle.alike_groups.specs.declared.group.Group.{Group}
use Rattle.alike_groups.proofs.greatest.list_large.Given as goal

-- those of the groups so far
abbrev pub invariant-groups : goal.invariant-groups
invariant-groups l = l.large.items ≡ filter (λ (g : Group). nat_le l.least g.count) (take l.group-index l.groups)
