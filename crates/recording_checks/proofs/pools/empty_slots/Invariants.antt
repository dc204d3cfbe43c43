use Rattle.std.proofs.Common.{◌≡◌, length}
use Rattle.recording_checks.specs.inner.Holding.{AreHeld}
use Rattle.recording_checks.proofs.pools.empty_slots.Given as goal

abbrev pub invariant-slots : goal.invariant-slots
invariant-slots g l =
    record {
      width : l.pool.width ≡ 1;
      held : AreHeld l.pool l.ids;
      ids : length l.ids ≡ length l.fn.ids;
    }
