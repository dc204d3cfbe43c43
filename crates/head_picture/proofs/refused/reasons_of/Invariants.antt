use Rattle.std.proofs.Common.{◌≡◌, [], drop}
use Rattle.head_picture.specs.Refusals.{with_rows}
use Rattle.head_picture.proofs.refused.reasons_of.Given as goal

-- the reasons so far, and those of the rows that are left, are those of all rows
abbrev pub invariant-rows : goal.invariant-rows
invariant-rows l = with_rows [] l.rows ≡ with_rows l.seen.items (drop l.row-index l.rows)
