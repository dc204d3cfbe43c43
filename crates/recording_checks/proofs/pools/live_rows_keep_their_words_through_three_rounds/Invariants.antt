use Rattle.std.proofs.Common.{◌≡◌, length}
use Rattle.recording_checks.specs.inner.Holding.{AreHeld}
use Rattle.recording_checks.proofs.pools.live_rows_keep_their_words_through_three_rounds.Given as goal

abbrev pub invariant-rounds : goal.invariant-rounds
invariant-rounds g l =
    record {
      width : l.pool.width ≡ 1;
      held : AreHeld l.pool l.ids;
      ids : length l.ids ≡ 8;
      words : length l.words ≡ 8;
    }
