use Rattle.std.proofs.Common.{◌≡◌, take}
use Rattle.graph_picture.specs.Relations.{pipes_of}
use Rattle.graph_picture.proofs.relations.pipes_of.Given as goal

-- the pipelines so far
abbrev pub invariant-rows : goal.invariant-rows
invariant-rows l = l.pairs.items ≡ pipes_of l.count l.boxes (take l.row-index l.rows)
