use Rattle.std.proofs.Common.{List, map, sym, subst}
use Rattle.std.specs.Borrow.{Bor}
use Rattle.std.specs.List.{AllZip}
use Rattle.std.proofs.lemmas.Result.{IfOk-weaker}
use Rattle.model_meet.specs.ModelStates.{ModelState}
use Rattle.trace_paths.specs.NumberedPaths.{IsPathUnder}
use Rattle.trace_types.specs.declared.named_segment.NamedSegment.{NamedSegment}
use Rattle.trace_types.specs.declared.named_trace.NamedTrace.{NamedTrace}
use Rattle.trace_figures.specs.Measured.{IsMeasured}
use Rattle.trace_figures.specs.declared.one_trace.MeasuredTrace.{MeasuredTrace}
use Rattle.trace_figures.specs.declared.trace_figures.TraceFigures.{TraceFigures}
use Rattle.trace_figures.specs.inner.Both.{IsMeasuredWithPath}
use Rattle.trace_figures.proofs.ApartLemmas.{zip_part}
use Rattle.trace_figures.proofs.measuring.measure_traces.Goals as goal

pub returns-clause-paths : goal.returns-clause-paths
returns-clause-paths g c =
    let model = c.args.model.now in
    let traces = c.args.traces.now in
    let measured = c.in_ok-measured.measured.items in
    let both : AllZip (λ (t : Bor NamedTrace) (m : MeasuredTrace). IsMeasuredWithPath model t.now m) traces measured =
    subst (λ (s : ModelState). AllZip (λ (t : Bor NamedTrace) (m : MeasuredTrace). IsMeasuredWithPath s t.now m) traces measured) c.in_ok-exclusions.ensures c.in_ok-measured.ensures in
    let paths : AllZip (λ (t : Bor NamedTrace) path. IsPathUnder model t.now path) traces (map (λ (m : MeasuredTrace). m.path) measured) =
    zip_part (λ (t : Bor NamedTrace) (m : MeasuredTrace). IsMeasuredWithPath model t.now m) (λ (t : Bor NamedTrace) path. IsPathUnder model t.now path) (λ (m : MeasuredTrace). m.path) (λ t m both. both.path) traces measured both in
    IfOk-weaker c.take_apart.result _ _ (λ page same. subst (AllZip (λ (t : Bor NamedTrace) (path : List NamedSegment). IsPathUnder model t.now path) traces) (sym same) paths) c.take_apart.ensures.paths

pub returns-clause-figures : goal.returns-clause-figures
returns-clause-figures g c =
    let model = c.args.model.now in
    let traces = c.args.traces.now in
    let measured = c.in_ok-measured.measured.items in
    let both : AllZip (λ (t : Bor NamedTrace) (m : MeasuredTrace). IsMeasuredWithPath model t.now m) traces measured =
    subst (λ (s : ModelState). AllZip (λ (t : Bor NamedTrace) (m : MeasuredTrace). IsMeasuredWithPath s t.now m) traces measured) c.in_ok-exclusions.ensures c.in_ok-measured.ensures in
    let figures : AllZip (λ (t : Bor NamedTrace) f. IsMeasured model t.now f) traces (map (λ (m : MeasuredTrace). m.figures) measured) =
    zip_part (λ (t : Bor NamedTrace) (m : MeasuredTrace). IsMeasuredWithPath model t.now m) (λ (t : Bor NamedTrace) f. IsMeasured model t.now f) (λ (m : MeasuredTrace). m.figures) (λ t m both. both.figures) traces measured both in
    IfOk-weaker c.take_apart.result _ _ (λ page same. subst (AllZip (λ (t : Bor NamedTrace) (f : TraceFigures). IsMeasured model t.now f) traces) (sym same) figures) c.take_apart.ensures.traces
