use Rattle.std.proofs.Common.{◌≡◌, ◌≤◌, ◌*◌, ◌^◌, take}
use Rattle.std.specs.Prelude.{sum_by}
use Rattle.trace_rules.specs.Durations.{path_length}
use Rattle.trace_types.specs.Parts.{by_number}
use Rattle.latency_report.proofs.tables.add_lengths.Given as goal

abbrev pub invariant-paths : goal.invariant-paths
invariant-paths l = record {
  sum : l.total ≡ sum_by (path_length by_number) (take l.path-index l.paths);
  bound : l.total ≤ l.path-index * (512 * 2 ^ 64);
}
