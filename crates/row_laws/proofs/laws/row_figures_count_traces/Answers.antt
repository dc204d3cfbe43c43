use Rattle.segment_names.specs.Known.{same_name}
use Rattle.session_rules.specs.KeptTraces.{by_kept}
use Rattle.row_laws.proofs.FigureLemmas.{name_rows_count, name_rows_met, task_rows_shared}
use Rattle.row_laws.proofs.laws.row_figures_count_traces.Goals as goal

pub returns : goal.returns
returns c = record { met = name_rows_met; counts = name_rows_count (c.figures_count_traces.ensures by_kept same_name); shared = task_rows_shared }
