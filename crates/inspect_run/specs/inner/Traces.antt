-- How rows on traces are appended.
use Rattle.std.specs.Prelude.{ℕ, ◌≡◌, ◌++◌, List}
use Rattle.machine_quality.specs.Told.{AreTold, NamedClock}
use Rattle.trace_types.specs.Batch.{PlainTrace}
use Rattle.trace_quality.specs.declared.trace_facts.TraceFacts.{TraceFacts}
use Rattle.inspect_run.specs.GraceRows.{AreGraceRows}
use Rattle.inspect_run.specs.NameRows.{AreNameRows}
use Rattle.inspect_run.specs.TraceRows.{AreTraceRows, clock_rows}

-- the rows on the clocks of machines were appended, of traces with these facts
pub record AppendsClocks (traces : List PlainTrace) (facts : List TraceFacts) (old new : List ℕ)
    : Type 0 where
  pub told : List NamedClock
  pub heard : AreTold traces told
  pub appended : new ≡ old ++ clock_rows traces facts told

-- the rows on traces were appended
pub record AppendsTraceRows (traces : List PlainTrace) (old new : List ℕ) : Type 0 where
  pub rows : List ℕ
  pub told : AreTraceRows traces rows
  pub appended : new ≡ old ++ rows

-- all rows on traces were appended: on the traces, on the names of their segments, and on relations
-- that few of them refute
pub record AppendsAllRows (traces : List PlainTrace) (old new : List ℕ) : Type 0 where
  pub rows : List ℕ
  pub told : AreTraceRows traces rows
  pub on_names : List ℕ
  pub names_told : AreNameRows traces on_names
  pub on_graces : List ℕ
  pub graces_told : AreGraceRows traces on_graces
  pub appended : new ≡ old ++ rows ++ on_names ++ on_graces
