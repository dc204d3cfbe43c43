use Rattle.std.proofs.Common.{◌≡◌, ◌++◌, map, length}
use Rattle.std.specs.Vec.Iter.{into_iter_items, into_iter_len}
use Rattle.trace_figures.specs.declared.one_trace.MeasuredTrace.{MeasuredTrace}
use Rattle.trace_figures.proofs.measuring.take_apart.Given as goal

-- what is taken apart so far, and what is left, are all
abbrev pub invariant-measured : goal.invariant-measured
invariant-measured l = record {
  paths : l.paths.items ++ map (λ (m : MeasuredTrace). m.path) (into_iter_items l.each-iterator) ≡ map (λ (m : MeasuredTrace). m.path) l.fn.measured.items;
  traces : l.traces.items ++ map (λ (m : MeasuredTrace). m.figures) (into_iter_items l.each-iterator) ≡ map (λ (m : MeasuredTrace). m.figures) l.fn.measured.items;
  left : into_iter_len l.each-iterator ≡ length (into_iter_items l.each-iterator);
}
