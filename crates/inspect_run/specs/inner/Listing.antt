-- Names that are listed by groups, as names or as tasks.
use Rattle.std.specs.Prelude.{ℕ, ◌≡◌, ◌++◌, List, map}
use Rattle.alike_groups.specs.declared.group.Group.{Group}
use Rattle.name_patterns.specs.Families.{AreFamilies}
use Rattle.name_patterns.specs.Patterns.{pattern_of}
use Rattle.name_quality.specs.Names.{all_names, first_of, name_label, name_pattern}
use Rattle.name_quality.specs.Names.{names_under}
use Rattle.trace_types.specs.Batch.{PlainTrace}
use Rattle.trace_types.specs.Segments.{SegmentName}
use Rattle.inspect_run.specs.NameRows.{AreNameRows, name_rows, patterns, task_rows}
use Rattle.inspect_run.specs.declared.listed.Listed.{Listed}
use Rattle.inspect_run.specs.declared.subject.Subject.{Subject}
use Rattle.inspect_run.specs.declared.subject.Subject.TheVariants.{Names, Tasks}

-- a name, or its task, as it is printed, and its pattern
abbrev pub label_of : Subject → SegmentName → List ℕ
label_of Names n = name_label n
label_of Tasks n = n.0

abbrev pub pattern_for : Subject → SegmentName → List ℕ
pattern_for Names n = name_pattern n
pattern_for Tasks n = pattern_of n.0

-- the first name of a group
abbrev pub name_at : Listed → Group → SegmentName
name_at listed g = first_of (names_under listed.texts.now listed.names.now) g

-- the labels of the first names of groups, and their patterns
abbrev pub labels_at : Listed → List Group → List (List ℕ)
labels_at listed groups = map (λ g. label_of listed.subject (name_at listed g)) groups

abbrev pub patterns_at : Listed → List Group → List (List ℕ)
patterns_at listed groups = map (λ g. pattern_for listed.subject (name_at listed g)) groups

-- the rows on names were appended
pub record AppendsNames (named : List (List SegmentName)) (old new : List ℕ) : Type 0 where
  pub families : List Group
  pub told : AreFamilies (patterns Names (all_names named)) families
  pub appended : new ≡ old ++ name_rows named families

-- the rows on tasks were appended
pub record AppendsTasks (names : List SegmentName) (old new : List ℕ) : Type 0 where
  pub families : List Group
  pub told : AreFamilies (patterns Tasks names) families
  pub appended : new ≡ old ++ task_rows names families

-- the rows on names and on tasks were appended
pub record AppendsNameRows (traces : List PlainTrace) (old new : List ℕ) : Type 0 where
  pub rows : List ℕ
  pub told : AreNameRows traces rows
  pub appended : new ≡ old ++ rows
