use Rattle.std.proofs.Common.{◌≡◌, take}
use Rattle.std.specs.List.{flat_map}
use Rattle.refute_picture.specs.Overlaps.{rows_of}
use Rattle.refute_picture.proofs.ordering.list_rows.Given as goal

-- the rows so far
abbrev pub invariant-betweens : goal.invariant-betweens
invariant-betweens l = l.rows.items ≡ flat_map (rows_of l.page) (take l.row-index l.betweens)
