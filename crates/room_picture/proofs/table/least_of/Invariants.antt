use Rattle.std.proofs.Common.{◌≡◌, ◌≤◌, drop}
use Rattle.std.specs.Prelude.{min}
use Rattle.room_picture.specs.Rooms.{least_of}
use Rattle.room_picture.proofs.table.least_of.Given as goal

-- the least so far, and that of the rows that are left, are that of all
abbrev pub invariant-rows : goal.invariant-rows
invariant-rows l = record {
  told : least_of l.full l.rows ≡ min l.least (least_of l.full (drop l.row-index l.rows));
  most : l.least ≤ l.full;
}
