use Rattle.std.proofs.Common.{take}
use Rattle.trace_paths.specs.Tables.{IsTableOf}
use Rattle.trace_rules.specs.SlowTraces.{marked, unmarked}
use Rattle.trace_paths.proofs.PathTimeLemmas.{joined}
use Rattle.slow_tail.proofs.path_tables.tabulate_paths.Given as goal

abbrev pub invariant-paths : goal.invariant-paths
invariant-paths l = record {
  slow : IsTableOf l.names (joined (marked (take l.index l.marks) (take l.index l.paths))) l.slow;
  rest : IsTableOf l.names (joined (unmarked (take l.index l.marks) (take l.index l.paths))) l.rest;
}
