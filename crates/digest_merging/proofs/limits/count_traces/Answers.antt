use Rattle.std.proofs.Common.{ap, arith}
use Rattle.std.proofs.lemmas.List.{drop_all}
use Rattle.digest_merging.specs.inner.AllTables.{all_counts}
use Rattle.digest_merging.proofs.limits.count_traces.Goals as goal

pub returns-clause-few : goal.returns-clause-few
returns-clause-few c = omega (arith, c.tables.invariant.few, c.tables.invariant.sum, ap all_counts (drop_all c.tables.table-index c.args.tables.now c.tables-test.false))
