use Rattle.std.proofs.Common.{◌≡◌, ◌≤◌, min, take}
use Rattle.std.specs.Prelude.{sum_by}
use Rattle.graph_picture.specs.Boxes.{time_in}
use Rattle.graph_picture.proofs.shares.capped_time.Given as goal

-- the time of the segments so far, up to the most
abbrev pub invariant-segments : goal.invariant-segments
invariant-segments l = record {
  told : l.time ≡ min l.most (sum_by (time_in l.boxes l.row) (take l.segment-index l.segments));
  within : l.time ≤ l.most;
}
