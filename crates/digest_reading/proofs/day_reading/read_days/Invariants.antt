use Rattle.std.proofs.Common.{◌≡◌, ◌+◌, ◌-◌, ◌≤◌, [], length}
use Rattle.digest_reading.specs.DigestRows.{day_said}
use Rattle.digest_reading.specs.Readings.{rows_said}
use Rattle.digest_reading.proofs.day_reading.read_days.Given as goal

-- the rows that are left after those so far are those of all
abbrev pub invariant-rows : goal.invariant-rows
invariant-rows l = record {
  told : rows_said day_said (l.count - length l.days.items) l.days.items l.number l.left ≡ rows_said day_said l.count [] l.first l.bytes;
  few : length l.days.items ≤ l.count;
  room : l.number + length l.left ≤ l.first + length l.bytes;
  later : l.first ≤ l.number;
}

abbrev pub decreases-rows : goal.decreases-rows
decreases-rows l = l.count - length l.days.items
