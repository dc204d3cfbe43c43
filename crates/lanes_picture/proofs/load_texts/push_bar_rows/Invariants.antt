use Rattle.std.proofs.Common.{◌≡◌, ◌++◌, take}
use Rattle.std.specs.List.{flat_map}
use Rattle.lanes_picture.specs.Lanes.{row_of_placed}
use Rattle.lanes_picture.proofs.load_texts.push_bar_rows.Given as goal

-- what there is so far was appended
abbrev pub invariant-bars : goal.invariant-bars
invariant-bars l = l.bytes.items ≡ l.fn.bytes.items ++ flat_map (row_of_placed l.number) (take l.placed-index l.bars)
