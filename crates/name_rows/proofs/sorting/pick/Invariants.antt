use Rattle.std.proofs.Common.{take}
use Rattle.name_rows.specs.inner.Sorting.{IsPicked}
use Rattle.name_rows.proofs.sorting.pick.Given as goal

abbrev pub invariant-order : goal.invariant-order
invariant-order l = IsPicked l.rows (take l.at l.order) l.picked.items
