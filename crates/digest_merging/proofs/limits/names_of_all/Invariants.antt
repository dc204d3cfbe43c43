use Rattle.std.proofs.Common.{◌≡◌, map, take}
use Rattle.digest_merging.specs.inner.AllTables.{all_names}
use Rattle.digest_merging.proofs.limits.names_of_all.Given as goal

-- those of the tables so far
abbrev pub invariant-tables : goal.invariant-tables
invariant-tables l = map (λ r. r.now) l.names.items ≡ all_names (take l.table-index l.tables)
