use Rattle.std.proofs.lemmas.Cmp.{nat_list_cmp_total}
use Rattle.std.specs.Cmp.Lexicographic.{slice_cmp}
use Rattle.std.specs.Ordering.{nat_cmp}
use Rattle.trace_types.specs.NameOrder.{name_cmp}
use Rattle.certificate_laws.proofs.FewLemmas.{few_refuted}
use Rattle.certificate_laws.proofs.laws.few_relations_are_refuted.Goals as goal

pub returns : goal.returns
returns c = few_refuted
    (c.names_are_totally_ordered.ensures.pairs name_cmp c.names_are_totally_ordered.ensures.names)
    (c.names_are_totally_ordered-2.ensures.pairs (slice_cmp nat_cmp) nat_list_cmp_total)
