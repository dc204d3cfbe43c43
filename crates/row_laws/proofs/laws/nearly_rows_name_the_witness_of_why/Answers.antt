use Rattle.segment_names.specs.Known.{same_name}
use Rattle.session_rules.specs.KeptTraces.{by_kept}
use Rattle.row_laws.proofs.WitnessLemmas.{exclusions_name_witness, orders_name_witness, pipes_name_witness}
use Rattle.row_laws.proofs.laws.nearly_rows_name_the_witness_of_why.Goals as goal

pub returns : goal.returns
returns c =
    let met = c.row_figures_count_traces.ensures.met in
    let counts = c.row_figures_count_traces.ensures.counts in
    let few = c.nearly_rows_tell_what_few_refute.ensures in
    let first = c.the_first_trace_refutes.ensures in
    record {
      orders = orders_name_witness met counts few.orders (first.orders by_kept same_name);
      exclusions = exclusions_name_witness met counts few.exclusions (first.exclusions by_kept same_name);
      pipes = pipes_name_witness c.row_figures_count_traces.ensures.shared few.pipes;
    }
