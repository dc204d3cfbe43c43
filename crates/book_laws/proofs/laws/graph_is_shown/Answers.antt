use Rattle.std.specs.List.{enumerate_from}
use Rattle.session_rules.specs.KeptTraces.{by_kept}
use Rattle.trace_types.specs.Parts.{by_number}
use Rattle.book_laws.proofs.GraphLemmas.{all_renamed}
use Rattle.book_laws.proofs.laws.graph_is_shown.Goals as goal

pub returns : goal.returns
returns c = λ known traces kept named k order g fits shown one form graph. record {
  keeps = form;
  of_trace = c.renamed_graph_is_the_same.ensures by_number by_kept (enumerate_from 0 known.names) (enumerate_from 0 known.tasks) traces kept named k order g
      (c.numbering_is_one_to_one.ensures.one_to_one known.names fits.names_differ) (c.numbering_is_one_to_one-2.ensures.one_to_one known.tasks fits.tasks_differ)
      (all_renamed known traces kept shown) one.renamed graph;
}
