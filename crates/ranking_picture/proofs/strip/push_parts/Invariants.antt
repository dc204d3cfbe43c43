use Rattle.std.proofs.Common.{◌≡◌, ◌≤◌, ◌++◌, drop}
use Rattle.ranking_picture.specs.Strips.{strip_from}
use Rattle.ranking_picture.proofs.strip.push_parts.Given as goal

-- the parts so far, and those of the rows that are left, are those of all rows
abbrev pub invariant-rows : goal.invariant-rows
invariant-rows l = record {
  within : l.at ≤ l.critical;
  told : l.bytes.items ++ strip_from l.all l.critical l.at (drop l.row-index l.rows) ≡ l.fn.bytes.items ++ strip_from l.all l.critical 0 l.rows;
}
