-- What a name gains in one trace is the difference of the lengths before and after the change of this
-- name alone.
use Rattle.std.proofs.Common.{◌≡◌, ◌≢◌, ℕ, ◌+◌, ◌*◌, ◌/◌, ◌<◌, ◌≤◌, Bool, cond, List, [], ◌∷◌, length, get_or, set, slice_get, Some, arith, refl, sym, ap, ◌∙◌, subst, ⊎_elim}
use Rattle.std.proofs.lemmas.Bool.{cases_eq, eq-eqb, ne_eqb}
use Rattle.std.proofs.lemmas.List.{get_or-set_same, get_or-set_other, length-set}
use Rattle.std.proofs.lemmas.Option.{slice_get_within}
use Rattle.model_meet.specs.ModelStates.{ModelState}
use Rattle.model_meet.specs.RelationBits.{KeepsExclusion}
use Rattle.path_gains.specs.Gains.{IsLoss}
use Rattle.path_gains.specs.declared.gain.Gain.{Gain}
use Rattle.trace_figures.specs.Measured.{IsMeasured}
use Rattle.trace_figures.specs.declared.trace_figures.TraceFigures.{TraceFigures}
use Rattle.trace_rules.specs.declared.forecast.Forecast.{Forecast}
use Rattle.trace_types.specs.declared.named_segment.NamedSegment.{NamedSegment}
use Rattle.trace_types.specs.declared.named_trace.NamedTrace.{NamedTrace}
use Rattle.weighted_dag.specs.Chains.{IsChain, IsLongestLength, chain_length}
use Rattle.weighted_dag.specs.Graphs.{Graph, order_of, weight_of}
use Rattle.what_if.specs.Forecasts.{changed_time}
use Rattle.what_if.specs.declared.change.Change.{Change}
use Rattle.gain_table.specs.GainRows.{IsPredicted, takes_half, takes_none}
use Rattle.gain_table.specs.inner.Growing.{HasName, IsGainOf, gain_at, nothing}
use Rattle.gain_table.proofs.GrowingLemmas.{one_name, one_vertex}

-- a forecast that loses so much
abbrev pub losing : ℕ → ℕ → Forecast
losing after loss = record { before = after + loss; after = after }

-- the time of a name with the change, and without
time_here : (c : Change) (name time : ℕ) → name ≡ c.name → changed_time (c ∷ []) name time ≡ time * c.num / c.den
time_here c name time e = ap (λ (b : Bool). cond b (time * c.num / c.den) time) (eq-eqb c.name name (sym e))

time_other : (c : Change) (name time : ℕ) → name ≢ c.name → changed_time (c ∷ []) name time ≡ time
time_other c name time e = ap (λ (b : Bool). cond b (time * c.num / c.den) time) (ne_eqb c.name name (λ h. e (sym h)))

-- a graph of no vertices has only the empty chain
no_vertices : (g : Graph) → order_of g ≡ 0 → IsLongestLength g 0
no_vertices g none = ([], record { chain = tt; none_longer = no_longer }, refl)
  where
    no_longer : (c : List ℕ) → IsChain g c → chain_length g c ≤ 0
    no_longer [] chain = omega arith
    no_longer (v ∷ c) chain = let within = chain.0 in absurd (omega arith)

module _ (model : ModelState) (trace : NamedTrace) (figures : TraceFigures) (is : IsMeasured model trace figures) where
  -- what a change predicts
  abbrev Predicts : Change → ℕ → Type 0
  Predicts c loss = (after : ℕ) × IsPredicted (KeepsExclusion model.words) c trace (losing after loss)

  count : length figures.order ≡ order_of is.graph
  count = sym is.dependencies.has.count

  -- the change of the name of a vertex
  found : (c : Change) (v w loss : ℕ) → HasName trace figures.order c.name v → v < order_of is.graph → weight_of is.graph v * c.num / c.den ≡ w → IsLoss is.graph v w loss → Predicts c loss
  found c v w loss named within part lost = (
    lost.after,
    record {
      order = figures.order;
      graph = is.graph;
      is_graph = is.dependencies;
      is_forecast = record {
        weights = set is.graph.weights v w;
        changed = record { count = length-set is.graph.weights v w; weights = weights };
        before = lost.before;
        after = lost.changed;
      };
    },
  )
    where
      weights : (u i : ℕ) (s : NamedSegment) → slice_get figures.order u ≡ Some i → slice_get trace.segments i ≡ Some s → get_or (set is.graph.weights v w) u 0 ≡ changed_time (c ∷ []) s.name (get_or is.graph.weights u 0)
      weights u i s at got = ⊎_elim
          (λ (e : s.name ≡ c.name).
          let one : u ≡ v = one_vertex trace figures.order is.graph is.dependencies.has u v c.name (s, (i, at, got), e) named in
          ap (λ (k : ℕ). get_or (set is.graph.weights v w) k 0) one
          ∙ (get_or-set_same is.graph.weights v w 0 within
          ∙ (sym part ∙ (ap (λ (k : ℕ). get_or is.graph.weights k 0 * c.num / c.den) (sym one)
          ∙ sym (time_here c s.name (get_or is.graph.weights u 0) e)))))
          (λ (e : s.name ≢ c.name).
          get_or-set_other is.graph.weights v u w 0 (λ one. e (one_name trace figures.order v s.name c.name (subst (λ (k : ℕ). HasName trace figures.order s.name k) one (s, (i, at, got), refl)) named))
          ∙ sym (time_other c s.name (get_or is.graph.weights u 0) e))
          (cases_eq s.name c.name)

  -- the longest length of the trace's graph
  longest : (n : ℕ) × IsLongestLength is.graph n
  longest = ⊎_elim
      (λ (none : order_of is.graph ≡ 0). (0, no_vertices is.graph none))
      (λ (some : order_of is.graph ≢ 0). let first = (is.gains 0 nothing (omega arith)).none in (first.after + (get_or figures.gains.items 0 nothing).none, first.before))
      (cases_eq (order_of is.graph) 0)

  -- the change of a name that no vertex has
  missed : (c : Change) → ((v : ℕ) → v < length figures.order → HasName trace figures.order c.name v → ⊥) → Predicts c 0
  missed c none =
      let (n, long) = longest in (
        n,
        record {
          order = figures.order;
          graph = is.graph;
          is_graph = is.dependencies;
          is_forecast = record {
            weights = is.graph.weights;
            changed = record {
              count = refl;
              weights = λ v i s at got. sym (time_other c s.name (get_or is.graph.weights v 0) (λ e. none v (slice_get_within figures.order v i at) (s, (i, at, got), e)));
            };
            before = subst (IsLongestLength is.graph) (let e : n ≡ n + 0 = omega arith in e) long;
            after = long;
          };
        },
      )

  pub predicted_none : (name : ℕ) (gain : Gain) → IsGainOf trace figures (length figures.order) name gain → Predicts (takes_none name) gain.none
  predicted_none name gain of = ⊎_elim
      (λ (there : (v : ℕ) × (v < length figures.order) × HasName trace figures.order name v × (gain ≡ gain_at figures v)).
      let within : there.0 < order_of is.graph = subst (λ (k : ℕ). there.0 < k) count there.1 in
      subst (λ (d : Gain). Predicts (takes_none name) d.none) (sym there.3)
      (found (takes_none name) there.0 0 (gain_at figures there.0).none there.2 within (omega arith) (is.gains there.0 nothing within).none))
      (λ (gone : ((v : ℕ) → v < length figures.order → HasName trace figures.order name v → ⊥) × (gain ≡ nothing)).
      subst (λ (d : Gain). Predicts (takes_none name) d.none) (sym gone.1) (missed (takes_none name) gone.0))
      of

  pub predicted_half : (name : ℕ) (gain : Gain) → IsGainOf trace figures (length figures.order) name gain → Predicts (takes_half name) gain.half
  predicted_half name gain of = ⊎_elim
      (λ (there : (v : ℕ) × (v < length figures.order) × HasName trace figures.order name v × (gain ≡ gain_at figures v)).
      let within : there.0 < order_of is.graph = subst (λ (k : ℕ). there.0 < k) count there.1 in
      subst (λ (d : Gain). Predicts (takes_half name) d.half) (sym there.3)
      (found (takes_half name) there.0 (weight_of is.graph there.0 / 2) (gain_at figures there.0).half there.2 within (omega arith) (is.gains there.0 nothing within).half))
      (λ (gone : ((v : ℕ) → v < length figures.order → HasName trace figures.order name v → ⊥) × (gain ≡ nothing)).
      subst (λ (d : Gain). Predicts (takes_half name) d.half) (sym gone.1) (missed (takes_half name) gone.0))
      of
