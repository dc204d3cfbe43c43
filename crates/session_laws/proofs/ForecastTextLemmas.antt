-- Kept traces have one text of each row of a forecast.
use Rattle.std.proofs.Common.{◌≡◌, ℕ, ◌<◌, List, [], ◌∷◌, length, sym, ◌∙◌, ap, subst, codes, decimal}
use Rattle.std.specs.Prelude.{slice_index, sum_by}
use Rattle.std.proofs.lemmas.List.{ext_get_or}
use Rattle.session_rules.specs.ForecastTexts.{IsForecastHead, IsForecastOf, IsForecastText, time_under}
use Rattle.session_rules.specs.KeptTraces.{Kept, by_kept}
use Rattle.session_rules.specs.TraceTexts.{name_of_vertex}
use Rattle.session_rules.specs.declared.named_change.NamedChange.{NamedChange}
use Rattle.text_rows.specs.Rows.{figure, row_of}
use Rattle.trace_types.specs.Segments.{SegmentName}
use Rattle.trace_graph.specs.GraphLaws.{HasOneGraph}
use Rattle.weighted_dag.specs.Chains.{IsLongestLength}
use Rattle.weighted_dag.specs.Graphs.{Graph, order_of, weight_of, with_weights}
use Rattle.trace_rules.specs.declared.forecast.Forecast.{Forecast}
use Rattle.session_laws.proofs.JobLemmas.{zip_one}
use Rattle.session_laws.proofs.TraceTextLemmas.{length_one, of_one_graph}

module _ (Excludes : SegmentName → SegmentName → Type 0) (graphs : HasOneGraph by_kept Excludes) (change : NamedChange) (kept : List Kept) where
  forecast_one : (k : Kept) (f g : Forecast) → IsForecastOf change Excludes k f → IsForecastOf change Excludes k g → f ≡ g
  forecast_one k f g p q =
      ap (λ (n : ℕ). record { before = n; after = f.after }) (length_one q.graph f.before g.before (subst (λ (h : Graph). IsLongestLength h f.before) same.1 p.before) q.before)
      ∙ ap (λ (n : ℕ). record { before = g.before; after = n }) (length_one (with_weights q.graph q.weights) f.after g.after (subst (λ (h : Graph). IsLongestLength h f.after) changed p.after) q.after)
    where
      same : (p.order ≡ q.order) × (p.graph ≡ q.graph)
      same = of_one_graph Excludes graphs k p.order q.order p.graph q.graph p.is q.is

      under : (v : ℕ) → v < order_of q.graph → slice_index p.weights v ≡ time_under change (name_of_vertex k q.order v) (weight_of q.graph v)
      under = subst (λ (h : Graph). (v : ℕ) → v < order_of h → slice_index p.weights v ≡ time_under change (name_of_vertex k q.order v) (weight_of h v)) same.1
          (subst (λ (o : List ℕ). (v : ℕ) → v < order_of p.graph → slice_index p.weights v ≡ time_under change (name_of_vertex k o v) (weight_of p.graph v)) same.0 p.changed)

      count : length p.weights ≡ order_of q.graph
      count = p.count ∙ ap order_of same.1

      weights : p.weights ≡ q.weights
      weights = ext_get_or 0 p.weights q.weights (count ∙ sym q.count) (λ v lt. let within : v < order_of q.graph = subst (λ (n : ℕ). v < n) count lt in under v within ∙ sym (q.changed v within))

      changed : with_weights p.graph p.weights ≡ with_weights q.graph q.weights
      changed = ap (λ (h : Graph). with_weights h p.weights) same.1 ∙ ap (with_weights q.graph) weights

  pub forecast_head_one : (t u : List ℕ) → IsForecastHead change Excludes kept t → IsForecastHead change Excludes kept u → t ≡ u
  forecast_head_one t u h k =
      h.text ∙ ap (λ (fs : List Forecast). row_of (codes "whatif" ∷ figure (codes "traces") (length kept)
      ∷ figure (codes "before") (sum_by (λ (f : Forecast). f.before) fs) ∷ figure (codes "after") (sum_by (λ (f : Forecast). f.after) fs) ∷ []))
      (zip_one (IsForecastOf change Excludes) forecast_one kept h.forecasts k.forecasts h.told k.told) ∙ sym k.text

  pub forecast_row_one : (trace : Kept) (t u : List ℕ) → IsForecastText change Excludes trace t → IsForecastText change Excludes trace u → t ≡ u
  forecast_row_one trace t u h k =
      h.text ∙ ap (λ (f : Forecast). row_of (codes "forecast" ∷ trace.trace.request ∷ decimal trace.trace.day ∷ decimal f.before ∷ decimal f.after ∷ []))
      (forecast_one trace h.forecast k.forecast h.told k.told) ∙ sym k.text
