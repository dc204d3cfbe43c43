use Rattle.std.proofs.Common.{◌≡◌, ◌≤◌, ◌*◌, ◌^◌, take}
use Rattle.trace_rules.specs.Durations.{path_length}
use Rattle.trace_types.specs.Parts.{by_number}
use Rattle.latency_report.proofs.tables.length_of.Given as goal

abbrev pub invariant-segments : goal.invariant-segments
invariant-segments l = record {
  sum : l.length ≡ path_length by_number (take l.segment-index l.path);
  bound : l.length ≤ l.segment-index * 2 ^ 64;
}
