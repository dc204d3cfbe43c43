use Rattle.std.specs.List.{enumerate_from}
use Rattle.session_rules.specs.KeptTraces.{by_kept}
use Rattle.trace_types.specs.Parts.{by_number}
use Rattle.certificate_rows.proofs.WholeLemmas.{whole_told}
use Rattle.certificate_rows.proofs.laws.certificate_is_shown.Goals as goal

pub returns : goal.returns
returns c = λ known b table names tasks kept refuted has ns ts shown are.
    let one_name = c.numbering_is_one_to_one.ensures.one_to_one known.names has.kept.known.names_differ in
    let one_task = c.numbering_is_one_to_one-2.ensures.one_to_one known.tasks has.kept.known.tasks_differ in
    whole_told known (record {
      fits = has.kept.known;
      at_name = c.numbering_is_one_to_one.ensures.matched known.names;
      at_task = c.numbering_is_one_to_one-2.ensures.matched known.tasks;
      alike = λ t k s. c.renamed_trace_refutes_alike.ensures by_number by_kept (enumerate_from 0 known.names) (enumerate_from 0 known.tasks) t k one_name one_task s.renamed;
      turned = λ m n t. c.relations_are_symmetric.ensures.exclusive by_number m n t;
    }) b table has kept shown names tasks ns ts refuted are c.a_list_is_told_in_one_way.ensures.listed c.a_list_is_told_in_one_way-2.ensures.listed
