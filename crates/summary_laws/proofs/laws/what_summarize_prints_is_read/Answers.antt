use Rattle.session_rules.specs.KeptTraces.{by_kept}
use Rattle.summary_laws.proofs.PrintedLemmas.{printed_is_read}
use Rattle.summary_laws.proofs.laws.what_summarize_prints_is_read.Goals as goal

pub returns : goal.returns
returns c = printed_is_read (c.a_digest_of_traces_can_be_read.ensures by_kept) c.a_merge_can_be_read.ensures c.a_printed_digest_is_read.ensures
