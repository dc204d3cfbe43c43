use Rattle.std.proofs.Common.{take, List}
use Rattle.std.specs.List.{flat_map}
use Rattle.trace_paths.specs.Tables.{IsTableOf}
use Rattle.trace_types.specs.declared.named_segment.NamedSegment.{NamedSegment}
use Rattle.latency_report.proofs.tables.tabulate_paths.Given as goal

abbrev pub invariant-paths : goal.invariant-paths
invariant-paths l =
    IsTableOf l.names (flat_map (λ (path : List NamedSegment). path) (take l.path-index l.paths)) l.table
