-- The rows on relations that few traces refute, all of these by little.
use Rattle.std.specs.Prelude.{ℕ, ◌≡◌, ◌⊎◌, ◌==◌, ◌++◌, List, [], All, codes, decimal, if◌then◌else◌}
use Rattle.std.specs.Prelude.{length, map, slice_index_or, take}
use Rattle.std.specs.List.{flat_map}
use Rattle.grace_quality.specs.Graces.{IsLeastGrace}
use Rattle.grace_quality.specs.declared.near.NearKind.{NearKind}
use Rattle.grace_quality.specs.declared.near.NearKind.TheVariants.{Order, Exclusion}
use Rattle.grace_quality.specs.declared.near.NearRelation.{NearRelation}
use Rattle.name_quality.specs.Names.{name_label}
use Rattle.near_relations.specs.NearRelations.{AreNearRelations, PassesLimitOf}
use Rattle.segment_names.specs.declared.name_fault.NameLimit.{NameLimit}
use Rattle.trace_types.specs.Batch.{PlainTrace}
use Rattle.trace_types.specs.Segments.{SegmentName}
use Rattle.inspect_run.specs.Rows.{no_example, row_text}
use Rattle.inspect_run.specs.declared.level.Level.{Level}
use Rattle.inspect_run.specs.declared.level.Level.TheVariants.{Fine, Note}

-- the name with this number as it is printed
abbrev pub label_under : List SegmentName → ℕ → List ℕ
label_under names number = name_label (slice_index_or names number ([], [], []))

-- what a relation says of the two names between which it stands
abbrev pub near_kind_text : NearKind → List ℕ
near_kind_text Order = codes " | happens before | "
near_kind_text Exclusion = codes " | excludes | "

-- a relation of two names, and the least grace, in microseconds, under which it survives
unfoldable pub near_text : NearKind → (first second : List ℕ) → (micros : ℕ) → List ℕ
near_text kind first second micros =
    first ++ near_kind_text kind ++ second ++ codes " | survives with a grace of "
    ++ decimal micros

-- the row of a relation: how many traces refute it, of how many with both names, the first of them,
-- and the relation with its least grace
abbrev pub near_row : List SegmentName → (requests : List (List ℕ)) → NearRelation × ℕ → List ℕ
near_row names requests told =
    row_text (codes "grace") Note told.0.refuted told.0.traces
    (slice_index_or requests told.0.trace [])
    (near_text told.0.kind (label_under names told.0.first) (label_under names told.0.second)
    told.1)

-- a note where there is one
abbrev pub grace_level : (near : ℕ) → Level
grace_level near = if near == 0 then Fine else Note

-- how many relations few traces refute, of those of two names that some trace has both of
abbrev pub grace_row : (near met : ℕ) → List ℕ
grace_row near met =
    row_text (codes "grace") (grace_level near) near met no_example
    (codes "refuted by few, by less than 1 ms")

-- the row where there are more names or tasks than a catalogue takes
abbrev pub too_many_row : List ℕ
too_many_row = codes "grace\tnote\t-\t-\t-\ttoo many names or tasks\n"

-- the rows on the relations that are found, of which the first hundred are told
pub record HasNearRows (traces : List PlainTrace) (rows : List ℕ) : Type 0 where
  pub names : List SegmentName
  pub requests : List (List ℕ)
  pub met : ℕ
  pub near : List NearRelation
  pub found : AreNearRelations traces names requests met near
  pub told : List (NearRelation × ℕ)
  pub first : map (λ (t : NearRelation × ℕ). t.0) told ≡ take 100 near
  pub graces : All (λ (t : NearRelation × ℕ). IsLeastGrace t.0.gap t.1) told
  pub printed : rows ≡ grace_row (length near) met ++ flat_map (near_row names requests) told

-- the rows on graces: those on the relations that are found, or that there are too many names
abbrev pub AreGraceRows : List PlainTrace → List ℕ → Type 0
AreGraceRows traces rows = HasNearRows traces rows
    ⊎ ((limit : NameLimit) × PassesLimitOf traces limit × (rows ≡ too_many_row))
