use Rattle.trace_types.proofs.RenamingLemmas.{trace_alike}
use Rattle.trace_types.proofs.laws.renamed_trace_refutes_alike.Goals as goal

pub returns : goal.returns
returns g c = λ p q names tasks trace other one_n one_t renamed. trace_alike p q names tasks one_n one_t trace other renamed
