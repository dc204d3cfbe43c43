use Rattle.std.proofs.Common.{◌≡◌, take}
use Rattle.std.specs.List.{flat_map}
use Rattle.ranking_picture.specs.Rankings.{row_if_on_path}
use Rattle.ranking_picture.proofs.ranking.list_rows.Given as goal

-- the rows so far
abbrev pub invariant-segments : goal.invariant-segments
invariant-segments l = l.rows.items ≡ flat_map (row_if_on_path l.gains) (take l.segment-index l.segments)
