use Rattle.span_laws.proofs.EntryLemmas.{own_names}
use Rattle.span_laws.proofs.laws.requests_have_own_names.Goals as goal

pub returns : goal.returns
returns c = own_names c.inputs_have_calls.ensures c.spans_are_called_once.ensures
