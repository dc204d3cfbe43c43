use Rattle.std.proofs.Common.{◌≡◌, ◌+◌, ◌<◌, ◌^◌, drop}
use Rattle.digest_merging.specs.inner.AllTables.{all_counts}
use Rattle.digest_merging.proofs.limits.count_traces.Given as goal

-- the traces so far, and those of the tables that are left
abbrev pub invariant-tables : goal.invariant-tables
invariant-tables l = record {
  few : l.count < 2 ^ 64;
  sum : l.count + all_counts (drop l.table-index l.tables) ≡ all_counts l.tables;
}
