use Rattle.std.proofs.Common.{◌≡◌, drop}
use Rattle.day_partitions.specs.Books.{has_day}
use Rattle.batch_sheets.proofs.new_days.is_kept.Given as goal

abbrev pub invariant-places : goal.invariant-places
invariant-places l = has_day (drop l.place l.book.days) l.day ≡ has_day l.book.days l.day
