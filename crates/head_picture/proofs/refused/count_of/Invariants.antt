use Rattle.std.proofs.Common.{◌≡◌, ◌≤◌, take}
use Rattle.head_picture.specs.Refusals.{count_of}
use Rattle.head_picture.proofs.refused.count_of.Given as goal

-- those with the reason among the rows so far
abbrev pub invariant-rows : goal.invariant-rows
invariant-rows l = record {
  counted : l.count ≡ count_of (take l.row-index l.rows) l.reason;
  few : l.count ≤ l.row-index;
}
