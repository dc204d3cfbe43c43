use Rattle.std.specs.List.{enumerate_from}
use Rattle.trace_types.specs.Parts.{by_number}
use Rattle.session_rules.specs.KeptTraces.{by_kept}
use Rattle.book_laws.proofs.WatchLawLemmas.{told_by_text}
use Rattle.book_laws.proofs.laws.watch_lines_are_told_by_text.Goals as goal

pub returns : goal.returns
returns c = λ known every workers named kept lines is shown some h. told_by_text known is (record {
  names = λ k x. c.numbering_is_one_to_one.ensures.matched known.names k x;
  tasks = λ k x. c.numbering_is_one_to_one-2.ensures.matched known.tasks k x;
  alike = λ trace k one. c.renamed_trace_refutes_alike.ensures by_number by_kept (enumerate_from 0 known.names) (enumerate_from 0 known.tasks) trace k
      (c.numbering_is_one_to_one.ensures.one_to_one known.names is.names_differ) (c.numbering_is_one_to_one-2.ensures.one_to_one known.tasks is.tasks_differ) one.renamed;
}) every workers named kept lines shown h
