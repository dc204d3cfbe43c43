-- The traces of a batch of events: each is cut into its segments or refused.
use Rattle.std.specs.Prelude.{◌≡◌, ℕ, List, [], ◌∷◌, Option, Some, None, Result, Ok, Err}
use Rattle.std.specs.List.{AllZip, filter_map}
use Rattle.trace_types.specs.declared.trace.Trace.{Trace}
use Rattle.trace_types.specs.Batch.{PlainTrace}
use Rattle.segment_cut.specs.declared.trace_fault.TraceFault.{TraceFault}
use Rattle.segment_cut.specs.Cutting.{IsCut}
use Rattle.segment_cut.specs.Faults.{IsTraceFault}
use Rattle.session_rules.specs.declared.refused.Refused.{Refused}

-- the trace is cut into its segments, or it is refused with the first fault that holds of it
abbrev pub IsJudged : PlainTrace → Result Trace TraceFault → Type 0
IsJudged raw (Ok trace) = IsCut raw.request raw.events trace
IsJudged raw (Err fault) = IsTraceFault raw.events fault

-- the trace of a verdict that does not refuse it
abbrev pub valid_in : Result Trace TraceFault → Option Trace
valid_in (Ok trace) = Some trace
valid_in (Err fault) = None

-- the valid traces, in order
abbrev pub valid_of : List (Result Trace TraceFault) → List Trace
valid_of verdicts = filter_map valid_in verdicts

-- the requests of the traces that are refused, each with its fault, in order
abbrev pub refused_of : List PlainTrace → List (Result Trace TraceFault) → List Refused
refused_of (raw ∷ raws) (Ok trace ∷ verdicts) = refused_of raws verdicts
refused_of (raw ∷ raws) (Err fault ∷ verdicts) =
    record { request = raw.request; fault = fault } ∷ refused_of raws verdicts
refused_of raws verdicts = []

-- of the traces of a batch these are valid and these are refused
pub record AreJudged (raws : List PlainTrace) (valid : List Trace) (refused : List Refused)
    : Type 0 where
  pub verdicts : List (Result Trace TraceFault)
  pub each : AllZip IsJudged raws verdicts
  pub valid_are : valid ≡ valid_of verdicts
  pub refused_are : refused ≡ refused_of raws verdicts
