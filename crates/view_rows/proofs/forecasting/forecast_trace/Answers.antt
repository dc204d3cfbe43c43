use Rattle.what_if.specs.Forecasts.{IsForecast}
use Rattle.trace_types.proofs.TruthLemmas.{if_ok}
use Rattle.view_rows.specs.inner.NumberedForecasts.{IsForecastUnder}
use Rattle.view_rows.proofs.ForecastBoundLemmas.{HasWords, short, words_of}
use Rattle.view_rows.proofs.forecasting.forecast_trace.Goals as goal

pub predict-requires-clause-graph : goal.predict-requires-clause-graph
predict-requires-clause-graph c = c.graph_has_segments.ensures c.args.trace.now c.in_ok-ordered.ordered.order c.in_ok-ordered.ordered.dag c.in_ok-ordered.ensures.vertices

pub returns : goal.returns
returns c =
    let t = c.args.trace.now in
    let changes = c.args.changes.now in
    let order = c.in_ok-ordered.ordered.order in
    let g = c.in_ok-ordered.ordered.dag in
    let has = c.in_ok-ordered.ensures.vertices in
    let segments = c.graph_has_segments.ensures t order g has in
    let words : HasWords g = words_of g c.weights.result.now c.weights.ensures.weights c.weights_have_words.ensures in
    if_ok c.predict.result (IsForecast t.segments order g changes) (IsForecastUnder c.args.exclusions.now.words changes t) (λ f h. record {
      short = short g h.weights f has.form words c.loses_no_more.ensures (c.changes_raise_no_weight.ensures t.segments order changes g h.weights segments c.requires.less h.changed) h.before h.after;
      told = record { order = order; graph = g; form = has.form; of_trace = c.in_ok-ordered.ensures.graph; told = h };
    }) c.predict.ensures
