use Rattle.std.proofs.Common.{◌≡◌, map, take}
use Rattle.name_patterns.specs.inner.Lists.{bytes_in}
use Rattle.name_quality.specs.inner.Labels.{name_pattern_at}
use Rattle.name_quality.proofs.labels.list_name_patterns.Given as goal

-- those of the groups so far
abbrev pub invariant-groups : goal.invariant-groups
invariant-groups l = map bytes_in l.patterns.items ≡ map (name_pattern_at l.texts l.names) (take l.index l.groups)
