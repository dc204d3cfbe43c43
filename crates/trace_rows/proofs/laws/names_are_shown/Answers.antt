use Rattle.trace_rows.proofs.ShownLemmas.{same_name}
use Rattle.trace_rows.proofs.laws.names_are_shown.Goals as goal

pub returns : goal.returns
returns c = λ known k n v names numbered one lt. same_name known k n v (c.numbering_is_one_to_one.ensures.matched known.names) names numbered one lt
