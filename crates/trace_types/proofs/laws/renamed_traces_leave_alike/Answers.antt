use Rattle.trace_types.proofs.RenamingLemmas.{leave_alike, unordered_alike}
use Rattle.trace_types.proofs.laws.renamed_traces_leave_alike.Goals as goal

pub returns-clause-relations : goal.returns-clause-relations
returns-clause-relations g c = λ p q names tasks traces others one_n one_t each. leave_alike p q names tasks one_n one_t traces others each

pub returns-clause-unordered : goal.returns-clause-unordered
returns-clause-unordered g c = λ p q names tasks traces others one_n one_t each cmp other_cmp order.
    unordered_alike p q names tasks one_n one_t traces others each cmp other_cmp order
