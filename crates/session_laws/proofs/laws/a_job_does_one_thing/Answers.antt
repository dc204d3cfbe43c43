use Rattle.std.specs.Cmp.Lexicographic.{slice_cmp}
use Rattle.std.specs.Ordering.{nat_cmp}
use Rattle.std.proofs.lemmas.Cmp.{nat_list_cmp_total}
use Rattle.trace_types.specs.NameOrder.{name_cmp}
use Rattle.session_laws.proofs.JobLemmas.{OneListing, OneVerdict, does_one, no_limit, one_limit}
use Rattle.session_laws.proofs.laws.a_job_does_one_thing.Goals as goal

pub returns : goal.returns
returns c =
    let verdict : OneVerdict = record { cut = c.a_trace_has_one_verdict.ensures.trace; fault = c.a_trace_has_one_verdict.ensures.fault; not_both = c.a_trace_has_one_verdict.ensures.not_both } in
    let told : OneListing = record {
      days = c.a_list_is_told_in_one_way.ensures.listed;
      names = c.a_list_is_told_in_one_way-2.ensures.listed;
      pairs = c.a_list_is_told_in_one_way-3.ensures.listed;
      tasks = c.a_list_is_told_in_one_way-4.ensures.listed;
      name_order = c.names_are_totally_ordered.ensures.names;
      pair_order = c.names_are_totally_ordered.ensures.pairs name_cmp c.names_are_totally_ordered.ensures.names;
      task_order = c.names_are_totally_ordered-2.ensures.pairs (slice_cmp nat_cmp) nat_list_cmp_total;
    } in
    record {
      one = does_one verdict told;
      no_limit = no_limit verdict;
      one_limit = one_limit verdict;
    }
