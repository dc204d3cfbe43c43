-- Families: texts, or names made of texts, that have one pattern.
use Rattle.std.specs.Prelude.{ℕ, List}
use Rattle.std.specs.Str.{bytes_eq}
use Rattle.alike_groups.specs.Groups.{AreGreatest, groups_of}
use Rattle.alike_groups.specs.declared.group.Group.{Group}

-- of different names with these patterns the families of ten or more, the greatest first, at most a
-- hundred: of each the index of its first name, and how many names it has
abbrev pub AreFamilies : List (List ℕ) → List Group → Type 0
AreFamilies patterns families = AreGreatest 10 100 (groups_of bytes_eq patterns) families
