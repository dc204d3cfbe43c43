use Rattle.std.proofs.Common.{◌≡◌, ◌++◌, take}
use Rattle.std.specs.List.{flat_map}
use Rattle.graph_picture.specs.Graphs.{exclusive_text}
use Rattle.graph_picture.proofs.arrows.push_exclusives.Given as goal

-- the lines so far were appended
abbrev pub invariant-rows : goal.invariant-rows
invariant-rows l = l.bytes.items ≡ l.fn.bytes.items ++ flat_map (exclusive_text l.count l.places) (take l.row-index l.rows)
