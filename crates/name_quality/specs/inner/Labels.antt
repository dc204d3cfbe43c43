-- The patterns of the first names of groups.
use Rattle.std.specs.Prelude.{ℕ, List, slice_index_or}
use Rattle.alike_groups.specs.declared.group.Group.{Group}
use Rattle.event_table.specs.Texts.{TextLists}
use Rattle.name_patterns.specs.Patterns.{pattern_of}
use Rattle.name_quality.specs.Names.{name_pattern, name_under}

-- the pattern of the name at the first index of a group
abbrev pub name_pattern_at : TextLists → List (ℕ × ℕ × ℕ) → Group → List ℕ
name_pattern_at texts ks g = name_pattern (name_under texts (slice_index_or ks g.first (0, 0, 0)))

-- the pattern of its task
abbrev pub task_pattern_at : TextLists → List (ℕ × ℕ × ℕ) → Group → List ℕ
task_pattern_at texts ks g =
    pattern_of (name_under texts (slice_index_or ks g.first (0, 0, 0))).0
