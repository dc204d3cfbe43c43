-- What weights that are not greater do to the longest length of a graph.
use Rattle.std.specs.Prelude.{◌≡◌, ◌≢◌, ℕ, ◌+◌, ◌-◌, ◌<◌, ◌≤◌, List, length, slice_index, sum_by, All}
use Rattle.std.specs.List.{range_with_len}
use Rattle.trace_rules.specs.TraceGraphs.{HasVertices}
use Rattle.trace_types.specs.declared.named_segment.NamedSegment.{NamedSegment}
use Rattle.trace_types.specs.declared.named_trace.NamedTrace.{NamedTrace}
use Rattle.trace_types.specs.Parts.{by_number}
use Rattle.weighted_dag.specs.Chains.{IsLongestLength}
use Rattle.weighted_dag.specs.Graphs.{Graph, IsGraph, order_of, weight_of, with_weights}
use Rattle.weighted_dag.specs.Slacks.{IsSlack}
use Rattle.what_if.specs.declared.change.Change.{Change}
use Rattle.what_if.specs.Forecasts.{AreChanged, HasSegments}

-- a change takes no time or some, at most as much as now
abbrev pub IsNoGreater : Change → Type 0
IsNoGreater c = (0 < c.den) × (c.num ≤ c.den)

-- the graph has these weights too, none of which is greater than its own
pub record AreNoGreater (g : Graph) (weights : List ℕ) : Type 0 where
  pub count : length weights ≡ order_of g
  pub no_greater : (v : ℕ) → v < order_of g → slice_index weights v ≤ weight_of g v

-- how much all weights lose together
abbrev pub all_lost : Graph → List ℕ → ℕ
all_lost g weights =
    sum_by (λ v. weight_of g v - slice_index weights v) (range_with_len 0 (order_of g))

-- with weights that are not greater the longest length is not greater, and it is less by at most
-- what all weights lose
abbrev pub LosesNoMore : Type 0
LosesNoMore = (g : Graph) (weights : List ℕ) (before after : ℕ) → IsGraph g
    → AreNoGreater g weights → IsLongestLength g before → IsLongestLength (with_weights g weights) after
    → (after ≤ before) × (before ≤ after + all_lost g weights)

-- where one vertex alone may have a lesser weight, and its slack is above 0, the longest length
-- stays
abbrev pub SlackLosesNothing : Type 0
SlackLosesNothing = (g : Graph) (weights : List ℕ) (v slack before after : ℕ) → IsGraph g
    → AreNoGreater g weights
    → ((u : ℕ) → u < order_of g → u ≢ v → slice_index weights u ≡ weight_of g u)
    → IsSlack g v slack → 0 < slack → v < order_of g
    → IsLongestLength g before → IsLongestLength (with_weights g weights) after → after ≡ before

-- the graph of a trace has its segments
abbrev pub GraphHasSegments : Type 0
GraphHasSegments = (trace : NamedTrace) (order : List ℕ) (g : Graph)
    → HasVertices by_number trace order g → HasSegments trace.segments order g

-- changes make no weight greater
abbrev pub ChangesRaiseNoWeight : Type 0
ChangesRaiseNoWeight = (segments : List NamedSegment) (order : List ℕ) (changes : List Change)
    (g : Graph) (weights : List ℕ) → HasSegments segments order g → All IsNoGreater changes
    → AreChanged segments order changes g.weights weights → AreNoGreater g weights
