use Rattle.std.proofs.Common.{◌≡◌, ◌++◌, length, take}
use Rattle.std.specs.List.{flat_map}
use Rattle.tail_picture.specs.Heats.{cell_text}
use Rattle.tail_picture.proofs.heat.push_cells.Given as goal

-- the cells so far were appended
abbrev pub invariant-buckets : goal.invariant-buckets
invariant-buckets l = l.bytes.items ≡ l.fn.bytes.items ++ flat_map (cell_text (length l.buckets) l.longest l.sums) (take l.bucket-index l.buckets)
