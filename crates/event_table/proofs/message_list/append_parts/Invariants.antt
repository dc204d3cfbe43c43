use Rattle.std.proofs.Common.{◌≡◌, ◌+◌, ◌++◌, length, map, take}
use Rattle.event_table.proofs.message_list.append_parts.Given as goal

-- the ends so far are appended
abbrev pub invariant-loop-end : goal.invariant-loop-end
invariant-loop-end l = record {
  bytes : l.bytes.items ≡ l.fn.bytes.items ++ l.later_bytes;
  ends : l.ends.items ≡ l.fn.ends.items ++ map (λ end. length l.fn.bytes.items + end) (take l.end-index l.later_ends);
  offset : l.offset ≡ length l.fn.bytes.items;
}
