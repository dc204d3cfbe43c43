use Rattle.std.proofs.Common.{◌≡◌, ◌++◌}
use Rattle.std.specs.Prelude.{flat_map}
use Rattle.std.specs.List.{range_with_len}
use Rattle.name_patterns.specs.Patterns.{piece_at}
use Rattle.name_patterns.specs.inner.Bytes.{AreBefore}
use Rattle.name_patterns.proofs.pattern.push_pattern.Given as goal

-- the pieces of the bytes so far, and what stands before the next one
abbrev pub invariant-bytes : goal.invariant-bytes
invariant-bytes l = record {
  pieces : l.text.items ≡ l.initial.text.items ++ flat_map (piece_at l.bytes) (range_with_len 0 l.at);
  before : AreBefore l.bytes l.at l.before;
}
