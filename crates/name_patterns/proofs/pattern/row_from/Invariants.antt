use Rattle.std.proofs.Common.{◌≡◌, ◌+◌, ◌-◌, ◌≤◌, drop, length}
use Rattle.std.specs.List.{prefix_len}
use Rattle.name_patterns.specs.inner.Bytes.{is_of_row}
use Rattle.name_patterns.proofs.pattern.row_from.Given as goal

-- so many bytes of the row stand from the index to the end so far
abbrev pub invariant-row : goal.invariant-row
invariant-row l = record {
  from : l.at ≤ l.end;
  within : l.end ≤ length l.bytes;
  counted : prefix_len (is_of_row l.hyphens) (drop l.at l.bytes) ≡ (l.end - l.at) + prefix_len (is_of_row l.hyphens) (drop l.end l.bytes);
}

abbrev pub decreases-row : goal.decreases-row
decreases-row l = length l.bytes - l.end
