use Rattle.std.proofs.Common.{◌≡◌, All, map, take}
use Rattle.slow_tail.specs.inner.TableRows.{IsTailRowFrom}
use Rattle.slow_tail.specs.declared.tail_row.TailRow.{TailRow}
use Rattle.slow_tail.proofs.rows.make_rows.Given as goal

abbrev pub invariant-names : goal.invariant-names
invariant-names l = record {
  names : map (λ (r : TailRow). r.name) l.rows.items ≡ take l.name-index l.name-items;
  rows : All (IsTailRowFrom l.tables.slow l.tables.rest) l.rows.items;
}
