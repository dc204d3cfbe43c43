use Rattle.span_laws.proofs.EntryLemmas.{begin_with_entries}
use Rattle.span_laws.proofs.laws.requests_begin_with_entries.Goals as goal

pub returns : goal.returns
returns c = begin_with_entries c.inputs_have_calls.ensures c.spans_are_called_once.ensures c.entries_are_called_by_none.ensures
