-- Which tasks pass data elements on, in a list of traces. The rule is this project's own.
use Rattle.std.specs.Prelude.{◌≢◌, List}
use Rattle.trace_types.specs.Parts.{Parts}
use Rattle.trace_types.specs.Pipelines.{RefutesPipe, RefutesUnshared}
use Rattle.trace_types.specs.Surviving.{Survives, IsRefuted}

module _ {A S N T E : Type 0} (p : Parts A S N T E) where
  -- T and U are a pipeline: they are two tasks, some trace has an element in both, and no trace
  -- refutes it
  pub record IsPipeline (traces : List A) (t u : T) : Type 0 where
    pub differ : t ≢ u
    pub shared : IsRefuted (RefutesUnshared p t u) traces
    pub survives : Survives (RefutesPipe p t u) traces
