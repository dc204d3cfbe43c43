use Rattle.std.proofs.Common.{Result, IfOk, sym, ◌∙◌, subst}
use Rattle.std.specs.Borrow.{Bor}
use Rattle.std.specs.declared.alloc.AllocError.{AllocError}
use Rattle.rayon.proofs.ToStd.{slice-AllZip}
use Rattle.refute_tests.specs.Clearing.{HaveNamesBelow}
use Rattle.trace_types.proofs.ZipLemmas.{collected}
use Rattle.trace_types.specs.declared.named_trace.NamedTrace.{NamedTrace}
use Rattle.trace_figures.specs.declared.one_trace.MeasuredTrace.{MeasuredTrace}
use Rattle.trace_figures.specs.inner.Both.{IsMeasuredWithPath}
use Rattle.trace_figures.proofs.measuring.measure_by.Goals as goal

pub collect-requires-clause-ready : goal.collect-requires-clause-ready
collect-requires-clause-ready g c κs within =
    let base = c.map.ensures.base in
    let least = c.with_min_len.ensures.base in
    let slice = c.par_iter.ensures in
    rw (c.map.ensures.base, c.map.ensures.f, c.with_min_len.ensures.base, slice) (λ k d lt x e. (subst (λ (t : Bor NamedTrace). HaveNamesBelow c.args.exclusions.now.names t.now) (sym e) (c.requires k d lt), λ y p. tt))

pub returns : goal.returns
returns g c =
    let model = c.args.exclusions.now in
    let traces = c.args.traces.now in
    let chain = rw (c.map.ensures.base, c.map.ensures.f, c.with_min_len.ensures.base) at c.in_ok-measured.ensures.1 in
    collected (λ (t : Bor NamedTrace) (m : MeasuredTrace). IsMeasuredWithPath model t.now m) traces c.in_ok-measured.ensures.0 c.in_ok-measured.measured
    (slice-AllZip chain.0 traces (chain.1 ∙ c.par_iter.ensures) (λ (t : Bor NamedTrace) (y : Result MeasuredTrace AllocError). IfOk y (IsMeasuredWithPath model t.now)) c.in_ok-measured.ensures.0 chain.2)
    c.in_ok-measured.ensures.2
