-- The traces and graphs of a book by numbers.
use Rattle.std.proofs.Common.{◌≡◌, ℕ, zero, suc, ◌+◌, ◌<◌, ◌≤◌, List, [], ◌∷◌, ◌++◌, length, take, length-append, get_or, slice_get, Some, refl, sym, ◌∙◌, ap, arith}
use Rattle.std.specs.Option.{option_map}
use Rattle.std.proofs.lemmas.List.{flat_map_more, take_all, take_more}
use Rattle.std.proofs.lemmas.List.Folds.{length-flat_map-take}
use Rattle.std.proofs.lemmas.Option.{slice_get-get_or, get_or_from_slice_get}
use Rattle.day_partitions.specs.Books.{KeptDay, all_traces}
use Rattle.refute_tests.specs.Clearing.{HaveNamesBelow}
use Rattle.trace_rules.specs.TraceGraphs.{IsTraceGraph}
use Rattle.trace_rows.specs.inner.NumberedTraces.{IsNumbered}
use Rattle.trace_types.specs.Parts.{by_number}
use Rattle.trace_types.specs.Segments.{SegmentName}
use Rattle.trace_types.specs.declared.named_trace.NamedTrace.{NamedTrace}
use Rattle.weighted_dag.specs.Graphs.{Graph, IsGraph}

-- each vertex has a weight, a segment and a name
pub numbered_graph : (Excludes : ℕ → ℕ → Type 0) (names : List SegmentName) (t : NamedTrace) (order : List ℕ) (g : Graph) → HaveNamesBelow (length names) t → IsTraceGraph by_number Excludes t order g → IsGraph g → IsNumbered (record { names = names; trace = t; order = order; weights = g.weights })
numbered_graph Excludes names t order g below graph form = record {
  few = form.small;
  weighted = graph.has.count;
  placed = λ v d lt. (graph.has.vertices.all (get_or order v d)).0 (v, lt, get_or_from_slice_get order v (get_or order v d) (get_or order v d) (slice_get-get_or order v d lt));
  named = below;
}

-- the day that has the traces at a place
pub day_at : (days : List KeptDay) (i : ℕ) (ts : List NamedTrace) → option_map (λ k. k.traces) (slice_get days i) ≡ Some ts → (k : KeptDay) × (k ≡ get_or days i k) × (k.traces ≡ ts)
day_at [] i ts h = absurd (cc)
day_at (k ∷ ks) zero ts h = (k, refl, (cc))
day_at (k ∷ ks) (suc i) ts h = day_at ks i ts h

-- the traces of one day more
pub count_next : (days : List KeptDay) (i count many : ℕ) (ts : List NamedTrace) → i < length days → count ≡ length (all_traces (take i days)) → option_map (λ k. k.traces) (slice_get days i) ≡ Some ts → many ≡ length ts → count + many ≡ length (all_traces (take (i + 1) days))
count_next days i count many ts lt so_far got here =
    let k = day_at days i ts got in
    let more : all_traces (take i days) ++ (k.0).traces ≡ all_traces (take (i + 1) days) = flat_map_more (λ (d : KeptDay). d.traces) [] (take i days) k.0 ∙ ap all_traces (sym (take_more days i k.0 lt ∙ ap (λ y. take i days ++ y ∷ []) (sym k.1))) in
    omega (arith, so_far, here, ap length k.2, ap length more, length-append (all_traces (take i days)) (k.0).traces)

-- all traces are at least as many
pub count_within : (days : List KeptDay) (i count many : ℕ) (ts : List NamedTrace) → i < length days → count ≡ length (all_traces (take i days)) → option_map (λ k. k.traces) (slice_get days i) ≡ Some ts → many ≡ length ts → count + many ≤ length (all_traces days)
count_within days i count many ts lt so_far got here =
    let k = day_at days i ts got in
    omega (arith, so_far, here, ap length k.2, ap (λ (d : KeptDay). length d.traces) k.1, length-flat_map-take (λ (d : KeptDay). d.traces) days i k.0 lt)

pub count_all : (days : List KeptDay) (i count : ℕ) → length days ≤ i → count ≡ length (all_traces (take i days)) → count ≡ length (all_traces days)
count_all days i count le so_far = so_far ∙ ap (λ ds. length (all_traces ds)) (take_all i days le)
