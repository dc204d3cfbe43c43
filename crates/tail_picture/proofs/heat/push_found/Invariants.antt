use Rattle.std.proofs.Common.{◌≡◌, ◌++◌, take}
use Rattle.std.specs.List.{flat_map}
use Rattle.tail_picture.specs.Heats.{cells_if}
use Rattle.tail_picture.proofs.heat.push_found.Given as goal

-- the rows so far were looked at
abbrev pub invariant-ranks : goal.invariant-ranks
invariant-ranks l = l.bytes.items ≡ l.fn.bytes.items ++ flat_map (cells_if l.longest l.buckets l.name) (take l.row-index l.ranks)
