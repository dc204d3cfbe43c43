use Rattle.std.proofs.Common.{◌≡◌, drop}
use Rattle.graph_picture.specs.Relations.{box_of}
use Rattle.graph_picture.proofs.relations.box_of.Given as goal

-- no box so far is of the task
abbrev pub invariant-boxes : goal.invariant-boxes
invariant-boxes l = box_of l.count l.boxes l.task ≡ box_of l.count (drop l.row-index l.boxes) l.task
