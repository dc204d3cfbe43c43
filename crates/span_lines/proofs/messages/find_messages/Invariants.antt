use Rattle.std.proofs.Common.{◌≡◌, length}
use Rattle.call_trees.specs.Tables.{table_of}
use Rattle.span_lines.specs.Messages.{first_far, last_far}
use Rattle.span_lines.specs.inner.LentMappings.{AreAmong}
use Rattle.span_lines.proofs.messages.find_messages.Given as goal

-- the messages of the calls so far
abbrev pub invariant-loop-at : goal.invariant-loop-at
invariant-loop-at l = record {
  first : l.first_far.items ≡ table_of (first_far l.calls l.below) l.at;
  last : l.last_far.items ≡ table_of (last_far l.calls l.below) l.at;
  first_among : AreAmong (length l.calls) l.first_far.items;
  last_among : AreAmong (length l.calls) l.last_far.items;
}
