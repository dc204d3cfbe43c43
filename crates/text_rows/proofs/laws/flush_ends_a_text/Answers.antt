use Rattle.text_rows.proofs.PrintLemmas.{flushed_all, prefix_flushed}
use Rattle.text_rows.proofs.laws.flush_ends_a_text.Goals as goal

pub returns-clause-whole : goal.returns-clause-whole
returns-clause-whole c = flushed_all

pub returns-clause-prefix : goal.returns-clause-prefix
returns-clause-prefix c = prefix_flushed
