-- How the rows on graces are appended.
use Rattle.std.specs.Prelude.{ℕ, ◌≡◌, ◌++◌, List}
use Rattle.grace_quality.specs.declared.near.NearRelation.{NearRelation}
use Rattle.trace_types.specs.Batch.{PlainTrace}
use Rattle.inspect_run.specs.GraceRows.{AreGraceRows}

-- the relation of one that is told with its grace
abbrev pub relation_told : NearRelation × ℕ → NearRelation
relation_told t = t.0

-- the rows on graces were appended
pub record AppendsGraceRows (traces : List PlainTrace) (old new : List ℕ) : Type 0 where
  pub rows : List ℕ
  pub told : AreGraceRows traces rows
  pub appended : new ≡ old ++ rows
