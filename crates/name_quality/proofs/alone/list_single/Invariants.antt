use Rattle.std.proofs.Common.{◌≡◌, eqb, filter, take}
use Rattle.alike_groups.specs.declared.group.Group.{Group}
use Rattle.name_quality.proofs.alone.list_single.Given as goal

-- those of the groups so far
abbrev pub invariant-groups : goal.invariant-groups
invariant-groups l = l.single.items ≡ filter (λ (g : Group). eqb g.count 1) (take l.group-index l.groups)
