-- The critical path of a trace with its figures.
use Rattle.model_meet.specs.ModelStates.{ModelState}
use Rattle.trace_figures.specs.Measured.{IsMeasured}
use Rattle.trace_figures.specs.declared.one_trace.MeasuredTrace.{MeasuredTrace}
use Rattle.trace_paths.specs.NumberedPaths.{IsPathUnder}
use Rattle.trace_types.specs.declared.named_trace.NamedTrace.{NamedTrace}

-- the critical path of the trace, and its figures
pub record IsMeasuredWithPath (model : ModelState) (trace : NamedTrace) (measured : MeasuredTrace)
    : Type 0 where
  pub path : IsPathUnder model trace measured.path
  pub figures : IsMeasured model trace measured.figures
