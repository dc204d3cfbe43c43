use Rattle.std.proofs.Common.{◌≡◌, map, take}
use Rattle.evidence_rules.specs.declared.sharing.Sharing.{Sharing}
use Rattle.evidence_rules.specs.declared.pair_row.PairRow.{PairRow}
use Rattle.task_rows.proofs.sorting.supports_of.Given as goal

abbrev pub invariant-rows : goal.invariant-rows
invariant-rows l = l.supports.items ≡ map (λ (row : PairRow Sharing). row.figures.traces) (take l.row-index l.rows)
