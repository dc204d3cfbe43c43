use Rattle.std.proofs.Common.{◌≡◌, [], drop}
use Rattle.head_picture.specs.Heads.{with_segments}
use Rattle.head_picture.proofs.figures.tasks_of.Given as goal

-- the tasks so far, and those of the segments that are left, are those of all
abbrev pub invariant-segments : goal.invariant-segments
invariant-segments l = with_segments [] l.segments ≡ with_segments l.seen.items (drop l.segment-index l.segments)
