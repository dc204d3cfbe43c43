use Rattle.std.proofs.Common.{◌≡◌, false, take}
use Rattle.day_partitions.specs.Books.{has_day}
use Rattle.live_journal.proofs.finding.is_kept.Given as goal

abbrev pub invariant-loop-place : goal.invariant-loop-place
invariant-loop-place l = has_day (take l.place l.book.days) l.day ≡ false
