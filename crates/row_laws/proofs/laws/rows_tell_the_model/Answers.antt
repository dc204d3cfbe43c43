use Rattle.segment_names.specs.Known.{same_name}
use Rattle.session_rules.specs.KeptTraces.{by_kept, day_of}
use Rattle.std.specs.Prelude.{[]}
use Rattle.std.specs.Cmp.Lexicographic.{slice_cmp}
use Rattle.std.specs.Ordering.{nat_cmp}
use Rattle.digest_facts.specs.Digests.{empty_digest}
use Rattle.trace_types.specs.NameOrder.{name_cmp}
use Rattle.row_laws.proofs.KeptLemmas.{Told}
use Rattle.row_laws.proofs.ModelLemmas.{NothingGiven, counts_are_model, exclusions_are_model, orders_are_model, pipes_are_model}
use Rattle.row_laws.proofs.laws.rows_tell_the_model.Goals as goal

pub returns : goal.returns
returns c =
    let told : Told = record {
      orders = c.relations_are_those_of_the_model.ensures.orders by_kept same_name;
      exclusions = c.relations_are_those_of_the_model.ensures.exclusions by_kept same_name;
      pipes = c.relations_are_those_of_the_model.ensures.pipes by_kept;
      counts = c.figures_count_traces.ensures by_kept same_name;
    } in
    let given : NothingGiven = λ kept. c.a_digest_tells_of_all.ensures by_kept day_of name_cmp (slice_cmp nat_cmp) c.names_tell_apart.ensures [] kept empty_digest (c.a_merge_is_of_both.ensures.none by_kept day_of name_cmp (slice_cmp nat_cmp)) in
    record { orders = orders_are_model told; exclusions = exclusions_are_model told; pipes = pipes_are_model told; counts = counts_are_model told given }
