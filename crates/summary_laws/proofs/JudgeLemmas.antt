-- Where two families of exclusions agree on different names, what is printed by the one is printed by the other.
use Rattle.std.proofs.Common.{◌≢◌, ◌↔◌, ℕ, List, [], ◌∷◌}
use Rattle.std.specs.List.{AllZip}
use Rattle.digest_graphs.proofs.GraphLemmas.{moved_graph}
use Rattle.session_rules.specs.ForecastTexts.{IsForecastHead, IsForecastOf, IsForecastText}
use Rattle.session_rules.specs.KeptTraces.{Kept, by_kept}
use Rattle.session_rules.specs.ReportTexts.{IsReportHead, IsSegmentText}
use Rattle.session_rules.specs.TailTexts.{IsTailText}
use Rattle.session_rules.specs.TraceTexts.{IsGraphOf, IsGraphText, IsPathText, IsSlackText}
use Rattle.session_rules.specs.declared.named_change.NamedChange.{NamedChange}
use Rattle.trace_rules.specs.CriticalPaths.{AreCriticalPaths, IsCriticalPath}
use Rattle.trace_rules.specs.declared.forecast.Forecast.{Forecast}
use Rattle.trace_types.specs.Segments.{SegmentName}
use Rattle.trace_types.specs.declared.segment.Segment.{Segment}
use Rattle.weighted_dag.specs.Graphs.{Graph}
use Rattle.summary_laws.specs.AlikeTexts.{JudgeAlike}

zip_to : {X Y : Type 0} (R S : X → Y → Type 0) → ((x : X) (y : Y) → R x y → S x y) → (xs : List X) (ys : List Y) → AllZip R xs ys → AllZip S xs ys
zip_to R S to [] [] h = h
zip_to R S to [] (y ∷ ys) h = absurd h
zip_to R S to (x ∷ xs) [] h = absurd h
zip_to R S to (x ∷ xs) (y ∷ ys) h = (to x y h.0, zip_to R S to xs ys h.1)

-- two families of exclusions agree on different names
abbrev pub AgreeApart : (SegmentName → SegmentName → Type 0) → (SegmentName → SegmentName → Type 0) → Type 0
AgreeApart P Q = (a b : SegmentName) → a ≢ b → P a b ↔ Q a b

pub turned_apart : (P Q : SegmentName → SegmentName → Type 0) → AgreeApart P Q → AgreeApart Q P
turned_apart P Q same a b d = ((same a b d).1, (same a b d).0)

module _ (P Q : SegmentName → SegmentName → Type 0) (same : AgreeApart P Q) where
  graph_to : (k : Kept) (order : List ℕ) (g : Graph) → IsGraphOf P k order g → IsGraphOf Q k order g
  graph_to k order g h = record { keeps = h.keeps; of_trace = moved_graph by_kept P Q same k order g k.trace.names_differ h.of_trace }

  path_to : (k : Kept) (bytes : List ℕ) → IsPathText P k bytes → IsPathText Q k bytes
  path_to k bytes h = record { order = h.order; graph = h.graph; chain = h.chain; is = graph_to k h.order h.graph h.is; longest = h.longest; first = h.first; text = h.text }

  slacks_to : (k : Kept) (bytes : List ℕ) → IsSlackText P k bytes → IsSlackText Q k bytes
  slacks_to k bytes h = record { order = h.order; graph = h.graph; longest = h.longest; slacks = h.slacks; is = graph_to k h.order h.graph h.is; length = h.length; each = h.each; text = h.text }

  graph_text_to : (k : Kept) (bytes : List ℕ) → IsGraphText P k bytes → IsGraphText Q k bytes
  graph_text_to k bytes h = record {
    order = h.order;
    graph = h.graph;
    reduced = h.reduced;
    is = graph_to k h.order h.graph h.is;
    keeps = h.keeps;
    weights = h.weights;
    edges = h.edges;
    text = h.text;
  }

  critical_to : (k : Kept) (path : List Segment) → IsCriticalPath by_kept P k path → IsCriticalPath by_kept Q k path
  critical_to k path h = record {
    order = h.order;
    graph = h.graph;
    chain = h.chain;
    form = h.form;
    dependencies = moved_graph by_kept P Q same k h.order h.graph k.trace.names_differ h.dependencies;
    longest = h.longest;
    first = h.first;
    segments = h.segments;
  }

  criticals_to : (kept : List Kept) (paths : List (List Segment)) → AreCriticalPaths by_kept P kept paths → AreCriticalPaths by_kept Q kept paths
  criticals_to = zip_to (IsCriticalPath by_kept P) (IsCriticalPath by_kept Q) critical_to

  report_head_to : (kept : List Kept) (bytes : List ℕ) → IsReportHead P kept bytes → IsReportHead Q kept bytes
  report_head_to kept bytes h = record { paths = h.paths; critical_paths = criticals_to kept h.paths h.critical_paths; text = h.text }

  segment_to : (kept : List Kept) (name : SegmentName) (bytes : List ℕ) → IsSegmentText P kept name bytes → IsSegmentText Q kept name bytes
  segment_to kept name bytes h = record {
    paths = h.paths;
    critical_paths = criticals_to kept h.paths h.critical_paths;
    figures = h.figures;
    on_path = h.on_path;
    on_path_sum = h.on_path_sum;
    told = h.told;
    text = h.text;
  }

  tail_to : (kept : List Kept) (name : SegmentName) (bytes : List ℕ) → IsTailText P kept name bytes → IsTailText Q kept name bytes
  tail_to kept name bytes h = record {
    paths = h.paths;
    critical_paths = criticals_to kept h.paths h.critical_paths;
    slow_on = h.slow_on;
    slow_sum = h.slow_sum;
    rest_on = h.rest_on;
    rest_sum = h.rest_sum;
    told = h.told;
    text = h.text;
  }

  forecast_to : (change : NamedChange) (k : Kept) (f : Forecast) → IsForecastOf change P k f → IsForecastOf change Q k f
  forecast_to change k f h = record {
    order = h.order;
    graph = h.graph;
    weights = h.weights;
    is = graph_to k h.order h.graph h.is;
    count = h.count;
    changed = h.changed;
    before = h.before;
    after = h.after;
  }

  forecast_head_to : (change : NamedChange) (kept : List Kept) (bytes : List ℕ) → IsForecastHead change P kept bytes → IsForecastHead change Q kept bytes
  forecast_head_to change kept bytes h = record {
    forecasts = h.forecasts;
    told = zip_to (IsForecastOf change P) (IsForecastOf change Q) (forecast_to change) kept h.forecasts h.told;
    text = h.text;
  }

  forecast_row_to : (change : NamedChange) (k : Kept) (bytes : List ℕ) → IsForecastText change P k bytes → IsForecastText change Q k bytes
  forecast_row_to change k bytes h = record { forecast = h.forecast; told = forecast_to change k h.forecast h.told; text = h.text }

pub judge_alike : (P Q : SegmentName → SegmentName → Type 0) → AgreeApart P Q → JudgeAlike P Q
judge_alike P Q same =
    let back : AgreeApart Q P = turned_apart P Q same in
    record {
      paths = λ k bytes. (path_to P Q same k bytes, path_to Q P back k bytes);
      slacks = λ k bytes. (slacks_to P Q same k bytes, slacks_to Q P back k bytes);
      graphs = λ k bytes. (graph_text_to P Q same k bytes, graph_text_to Q P back k bytes);
      report_heads = λ kept bytes. (report_head_to P Q same kept bytes, report_head_to Q P back kept bytes);
      report_rows = λ kept name bytes. (segment_to P Q same kept name bytes, segment_to Q P back kept name bytes);
      tail_rows = λ kept name bytes. (tail_to P Q same kept name bytes, tail_to Q P back kept name bytes);
      forecast_heads = λ change kept bytes. (forecast_head_to P Q same change kept bytes, forecast_head_to Q P back change kept bytes);
      forecasts = λ change k bytes. (forecast_row_to P Q same change k bytes, forecast_row_to Q P back change k bytes);
    }
