use Rattle.live_journal.proofs.ReplayLemmas.{replay_kept}
use Rattle.live_journal.proofs.laws.replay_is_kept.Goals as goal

pub returns : goal.returns
returns c = replay_kept c.nothing_is_kept.ensures c.calls_keep.ensures
