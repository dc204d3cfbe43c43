use Rattle.std.proofs.Common.{◌≡◌, drop}
use Rattle.std.specs.Prelude.{max}
use Rattle.refute_picture.specs.Overlaps.{box_time}
use Rattle.refute_picture.proofs.box_time.box_time.Given as goal

-- the longest so far, and that of the segments that are left, are that of all
abbrev pub invariant-segments : goal.invariant-segments
invariant-segments l = box_time l.segments l.row ≡ max l.time (box_time (drop l.segment-index l.segments) l.row)
