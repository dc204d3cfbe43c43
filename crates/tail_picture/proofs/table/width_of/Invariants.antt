use Rattle.std.proofs.Common.{◌≡◌, drop}
use Rattle.std.specs.Prelude.{max}
use Rattle.tail_picture.specs.Tails.{width_of}
use Rattle.tail_picture.proofs.table.width_of.Given as goal

-- the greatest so far, and that of the rows that are left, are that of all
abbrev pub invariant-rows : goal.invariant-rows
invariant-rows l = width_of l.rows ≡ max l.width (width_of (drop l.row-index l.rows))
