use Rattle.std.proofs.Common.{◌≡◌, drop}
use Rattle.std.specs.Prelude.{max}
use Rattle.refute_picture.specs.Overlaps.{time_at}
use Rattle.refute_picture.proofs.box_time.time_at.Given as goal

-- the time so far, and that of the boxes that are left, are that of all
abbrev pub invariant-boxes : goal.invariant-boxes
invariant-boxes l = time_at l.segments l.boxes l.number ≡ max l.time (time_at l.segments (drop l.row-index l.boxes) l.number)
