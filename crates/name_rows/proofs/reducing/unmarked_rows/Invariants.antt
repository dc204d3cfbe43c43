use Rattle.std.proofs.Common.{◌≡◌, take}
use Rattle.name_rows.specs.inner.Reducing.{unmarked}
use Rattle.name_rows.proofs.reducing.unmarked_rows.Given as goal

abbrev pub invariant-rows : goal.invariant-rows
invariant-rows l = l.left.items ≡ unmarked (take l.at l.rows) (take l.at l.marks)
