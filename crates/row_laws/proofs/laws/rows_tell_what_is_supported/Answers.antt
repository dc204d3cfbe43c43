use Rattle.segment_names.specs.Known.{same_name}
use Rattle.session_rules.specs.KeptTraces.{by_kept}
use Rattle.row_laws.proofs.KeptLemmas.{Told}
use Rattle.row_laws.proofs.ModelLemmas.{exclusions_supported, orders_supported, pipes_supported}
use Rattle.row_laws.proofs.laws.rows_tell_what_is_supported.Goals as goal

pub returns : goal.returns
returns c =
    let told : Told = record {
      orders = c.relations_are_those_of_the_model.ensures.orders by_kept same_name;
      exclusions = c.relations_are_those_of_the_model.ensures.exclusions by_kept same_name;
      pipes = c.relations_are_those_of_the_model.ensures.pipes by_kept;
      counts = c.figures_count_traces.ensures by_kept same_name;
    } in
    record { orders = orders_supported told; exclusions = exclusions_supported told; pipes = pipes_supported told }
