use Rattle.std.proofs.Common.{◌≡◌, ◌<◌, ℕ, length, slice_get, Some}
use Rattle.std.specs.Prelude.{slice_index}
use Rattle.trace_types.specs.declared.named_segment.NamedSegment.{NamedSegment}
use Rattle.what_if.specs.Forecasts.{changed_time}
use Rattle.what_if.proofs.prediction.change_weights.Given as goal

abbrev pub invariant-vertices : goal.invariant-vertices
invariant-vertices l = record {
  count : length l.weights.items ≡ l.vertex;
  weights : (v i : ℕ) (s : NamedSegment) → v < l.vertex → slice_get l.order v ≡ Some i → slice_get l.segments i ≡ Some s
      → slice_index l.weights.items v ≡ changed_time l.changes s.name (slice_index l.old v);
}
