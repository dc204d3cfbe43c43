use Rattle.std.proofs.Common.{◌≡◌, ◌++◌, map, take}
use Rattle.std.specs.List.{flat_map}
use Rattle.text_rows.specs.Rows.{row_of}
use Rattle.digest_facts.specs.Texts.{day_fields}
use Rattle.digest_text.proofs.text_making.put_days.Given as goal

-- the rows so far
abbrev pub invariant-days : goal.invariant-days
invariant-days l = l.text.items ≡ l.fn.text.items ++ flat_map row_of (map day_fields (take l.day-index l.days))
