use Rattle.std.proofs.Common.{◌≡◌, ◌≤◌, take}
use Rattle.std.specs.List.{count_by}
use Rattle.refute_picture.specs.Totals.{is_of_kind}
use Rattle.refute_picture.proofs.totals.count_of.Given as goal

-- those of the kind among the rows so far
abbrev pub invariant-rows : goal.invariant-rows
invariant-rows l = record {
  counted : l.count ≡ count_by (is_of_kind l.kind) (take l.row-index l.rows);
  few : l.count ≤ l.row-index;
}
