use Rattle.std.proofs.Common.{◌≡◌, ◌<◌, ◌^◌, length, take}
use Rattle.event_table.specs.Gathered.{events_of_tables}
use Rattle.event_table.proofs.limits.are_few.Given as goal

-- the events of the tables so far are counted, and are few
abbrev pub invariant-loop-part : goal.invariant-loop-part
invariant-loop-part l = record {
  count : l.count ≡ length (events_of_tables (take l.part-index l.parts));
  few : l.count < 2 ^ 32;
}
