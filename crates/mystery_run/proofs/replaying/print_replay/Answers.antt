use Rattle.trace_types.proofs.TruthLemmas.{on_ok, on_err}
use Rattle.mystery_run.proofs.replaying.print_replay.Goals as goal

pub returns-clause-all : goal.returns-clause-all
returns-clause-all g c = on_ok c.flush.result _ _ (c.flush_ends_a_text.ensures.whole _ _ _ _ _ (rw c.new-buffer.ensures at c.in_ok-print_rows.ensures.all)) c.flush.ensures.all

pub returns-clause-prefix : goal.returns-clause-prefix
returns-clause-prefix g c = on_err c.flush.result _ _ (c.flush_ends_a_text.ensures.prefix _ _ _ _ _ (rw c.new-buffer.ensures at c.in_ok-print_rows.ensures.all)) c.flush.ensures.prefix
