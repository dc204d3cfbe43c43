use Rattle.std.specs.List.{enumerate_from}
use Rattle.session_rules.specs.KeptTraces.{by_kept}
use Rattle.trace_types.specs.Parts.{by_number}
use Rattle.certificate_rows.proofs.ClaimLemmas.{claim_shown}
use Rattle.certificate_rows.proofs.laws.claims_are_shown.Goals as goal

pub returns : goal.returns
returns c = λ known b kept claim fits is shown.
    let one_name = c.numbering_is_one_to_one.ensures.one_to_one known.names fits.names_differ in
    let one_task = c.numbering_is_one_to_one-2.ensures.one_to_one known.tasks fits.tasks_differ in
    claim_shown known (record {
      fits = fits;
      at_name = c.numbering_is_one_to_one.ensures.matched known.names;
      at_task = c.numbering_is_one_to_one-2.ensures.matched known.tasks;
      alike = λ t k s. c.renamed_trace_refutes_alike.ensures by_number by_kept (enumerate_from 0 known.names) (enumerate_from 0 known.tasks) t k one_name one_task s.renamed;
      turned = λ m n t. c.relations_are_symmetric.ensures.exclusive by_number m n t;
    }) b kept claim is shown
