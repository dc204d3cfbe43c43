use Rattle.std.proofs.Common.{◌≡◌, ◌≤◌, length, take}
use Rattle.std.specs.Prelude.{filter}
use Rattle.event_lines.specs.Cut.{is_line_feed}
use Rattle.event_lines.proofs.pieces.count_line_feeds.Given as goal

abbrev pub invariant-loop-at : goal.invariant-loop-at
invariant-loop-at l = record {
  counted : l.count ≡ length (filter is_line_feed (take l.at l.bytes));
  few : l.count ≤ l.at;
}
