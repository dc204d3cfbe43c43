use Rattle.segment_names.specs.Known.{same_name}
use Rattle.session_rules.specs.KeptTraces.{by_kept}
use Rattle.row_laws.proofs.KeptLemmas.{Told}
use Rattle.row_laws.proofs.ReducedLemmas.{names_reach_same, not_implied_are_left}
use Rattle.row_laws.proofs.laws.reduced_orders_reach_the_same.Goals as goal

pub returns : goal.returns
returns c =
    let told : Told = record {
      orders = c.relations_are_those_of_the_model.ensures.orders by_kept same_name;
      exclusions = c.relations_are_those_of_the_model.ensures.exclusions by_kept same_name;
      pipes = c.relations_are_those_of_the_model.ensures.pipes by_kept;
      counts = c.figures_count_traces.ensures by_kept same_name;
    } in
    let same = c.the_same_reach.ensures in
    record { left = not_implied_are_left told same; names = names_reach_same told same }
