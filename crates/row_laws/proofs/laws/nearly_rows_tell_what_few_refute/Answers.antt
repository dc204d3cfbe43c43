use Rattle.segment_names.specs.Known.{same_name}
use Rattle.session_rules.specs.KeptTraces.{by_kept}
use Rattle.row_laws.proofs.KeptLemmas.{Told}
use Rattle.row_laws.proofs.NearlyLemmas.{near_exclusions, near_orders, near_pipes}
use Rattle.row_laws.proofs.laws.nearly_rows_tell_what_few_refute.Goals as goal

pub returns : goal.returns
returns c =
    let told : Told = record {
      orders = c.relations_are_those_of_the_model.ensures.orders by_kept same_name;
      exclusions = c.relations_are_those_of_the_model.ensures.exclusions by_kept same_name;
      pipes = c.relations_are_those_of_the_model.ensures.pipes by_kept;
      counts = c.figures_count_traces.ensures by_kept same_name;
    } in
    record { orders = near_orders told; exclusions = near_exclusions told; pipes = near_pipes told }
