use Rattle.std.proofs.Common.{◌≡◌, drop}
use Rattle.head_picture.specs.Refusals.{first_text}
use Rattle.head_picture.proofs.refused.push_first.Given as goal

-- no row so far has the reason
abbrev pub invariant-rows : goal.invariant-rows
invariant-rows l = record {
  bytes : l.bytes.items ≡ l.fn.bytes.items;
  told : first_text l.reason l.rows ≡ first_text l.reason (drop l.row-index l.rows);
}
