use Rattle.std.proofs.Common.{◌≡◌, ◌+◌, ◌-◌, ◌≤◌, length}
use Rattle.digest_reading.specs.Readings.{digests_said, digests_within, said_of_rest}
use Rattle.digest_reading.proofs.DigestLemmas.{after_tables}
use Rattle.digest_reading.proofs.reading.read_digests.Given as goal

-- the tables so far and those of the bytes that are left are those of all
abbrev pub invariant-digests : goal.invariant-digests
invariant-digests l = record {
  told : after_tables l.tables.items (said_of_rest (digests_within (length l.bytes + 1 - length l.tables.items)) l.number l.left) ≡ digests_said l.bytes;
  few : length l.tables.items + length l.left ≤ length l.bytes;
  room : l.number + length l.left ≤ length l.bytes + 1;
}

abbrev pub decreases-digests : goal.decreases-digests
decreases-digests l = length l.left
