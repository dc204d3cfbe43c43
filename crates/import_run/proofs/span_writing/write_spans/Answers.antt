use Rattle.import_run.specs.inner.ParsedLines.{asked_view}
use Rattle.import_run.specs.inner.Taken.{spans_view}
use Rattle.import_run.proofs.EndingLemmas.{text_written}
use Rattle.import_run.proofs.span_writing.write_spans.Goals as goal

pub returns-in-Ok-clause-writes : goal.returns-in-Ok-clause-writes
returns-in-Ok-clause-writes g c = text_written c.write_all.result c.args.form (asked_view c.args.asked) (spans_view c.args.spans) c.in-Ok.printed _ _ (rw c.deref_mut.ensures.value at c.in-Ok.ensures.lines) (rw c.deref.ensures.value at c.write_all.ensures.writes)
