use Rattle.time_laws.proofs.NestedLemmas.{nested_spans_have_nested_calls}
use Rattle.time_laws.proofs.laws.nested_spans_have_nested_calls.Goals as goal

pub returns : goal.returns
returns c = nested_spans_have_nested_calls
