use Rattle.std.specs.Cmp.Lexicographic.{slice_cmp}
use Rattle.std.specs.Ordering.{nat_cmp}
use Rattle.std.proofs.lemmas.Cmp.{nat_list_cmp_total}
use Rattle.digest_facts.proofs.MergeLemmas.{name_apart, text_apart}
use Rattle.trace_graph.proofs.UniqueLemmas.{one_graph}
use Rattle.trace_paths.proofs.OnePathLemmas.{paths_one}
use Rattle.session_rules.specs.GivenDigests.{SurvivesUnder}
use Rattle.session_rules.specs.KeptTraces.{by_kept, day_of}
use Rattle.trace_types.specs.NameOrder.{name_cmp}
use Rattle.session_laws.proofs.PartLemmas.{OneTelling, part_one, parts_one}
use Rattle.session_laws.proofs.laws.only_watch_numbers_differ.Goals as goal

pub returns : goal.returns
returns c =
    let told : OneTelling = record {
      numbers = c.a_list_is_told_in_one_way.ensures.listed;
      names = c.a_list_is_told_in_one_way-4.ensures.listed;
      tasks = c.a_list_is_told_in_one_way-5.ensures.listed;
      days = c.a_list_is_told_in_one_way.ensures.counted;
      name_count = c.a_list_is_told_in_one_way-2.ensures.counted;
      task_count = c.a_list_is_told_in_one_way-3.ensures.counted;
      name_order = c.names_are_totally_ordered.ensures.pairs name_cmp c.names_are_totally_ordered.ensures.names;
      task_order = c.names_are_totally_ordered-2.ensures.pairs (slice_cmp nat_cmp) nat_list_cmp_total;
      graphs = λ given kept. one_graph by_kept c.a_list_is_told_in_one_way.ensures.listed (SurvivesUnder given kept);
      paths = λ given kept. paths_one by_kept (SurvivesUnder given kept) (one_graph by_kept c.a_list_is_told_in_one_way.ensures.listed (SurvivesUnder given kept));
      digests = c.a_digest_is_one.ensures.one by_kept day_of name_cmp (slice_cmp nat_cmp) name_apart text_apart;
      evidence = record {
        names = c.a_list_is_told_in_one_way-2.ensures.listed;
        tasks = c.a_list_is_told_in_one_way-3.ensures.listed;
        supports = c.a_list_is_told_in_one_way-6.ensures.listed;
        elements = c.a_list_is_told_in_one_way-3.ensures.counted;
        name_order = c.names_are_totally_ordered.ensures.names;
        task_order = nat_list_cmp_total;
      };
    } in
    record {
      part = part_one told;
      parts = parts_one told;
      alike = λ text other h. (h.0, h.1, h.2, parts_one told h.0 text other h.1 h.2);
    }
