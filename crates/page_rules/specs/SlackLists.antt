-- The slacks of the segments with one name over traces, and how they are spread, where the mutual
-- exclusions in Excludes survive. Slacks are in nanoseconds. This is the project's own.
use Rattle.std.specs.Prelude.{ℕ, Bool, List, map, filter, flat_map}
use Rattle.std.specs.List.{AllZip, range_with_len}
use Rattle.slack_spread.specs.Spreads.{IsSpread}
use Rattle.slack_spread.specs.declared.spread.Spread.{Spread}
use Rattle.trace_rules.specs.CriticalPaths.{StandsFor}
use Rattle.trace_rules.specs.TraceGraphs.{IsTraceGraph}
use Rattle.trace_types.specs.Parts.{Parts}
use Rattle.weighted_dag.specs.Graphs.{Graph, IsGraph, order_of}
use Rattle.weighted_dag.specs.Slacks.{IsSlack}

module _ {A S N T E : Type 0} (p : Parts A S N T E) where
  -- the segments of a trace in the order of its graph, each with its slack
  pub record AreSlacks (Excludes : N → N → Type 0) (trace : A) (slacks : List (S × ℕ)) : Type 0
    where
      pub order : List ℕ
      pub graph : Graph
      pub form : IsGraph graph
      pub dependencies : IsTraceGraph p Excludes trace order graph
      pub each : AllZip (λ v x. StandsFor (p.segments trace) order v x.0 × IsSlack graph v x.1)
          (range_with_len 0 (order_of graph)) slacks

  -- of segments with slacks the slacks of those with this name; `same` tells whether two names are
  -- one
  abbrev pub slacks_with : (N → N → Bool) → N → List (List (S × ℕ)) → List ℕ
  slacks_with same name slacks =
      map (λ x. x.1) (filter (λ x. same (p.name x.0) name) (flat_map (λ x. x) slacks))

  -- how the slacks of the traces' segments with this name are spread
  pub record IsSpreadOf (same : N → N → Bool) (Excludes : N → N → Type 0) (traces : List A)
      (name : N) (spread : Spread) : Type 0 where
    pub slacks : List (List (S × ℕ))
    pub told : AllZip (AreSlacks Excludes) traces slacks
    pub spread_is : IsSpread (slacks_with same name slacks) spread
