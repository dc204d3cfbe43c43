use Rattle.std.proofs.Common.{◌≡◌, ◌≤◌, ◌*◌, ◌^◌, take}
use Rattle.ranking_picture.specs.Tables.{time_of_rows}
use Rattle.ranking_picture.proofs.rows.time_of_rows.Given as goal

-- the time of the rows so far
abbrev pub invariant-rows : goal.invariant-rows
invariant-rows l = record {
  time : l.time ≡ time_of_rows (take l.row-index l.rows);
  small : l.time ≤ 2 ^ 80 * l.row-index;
}
