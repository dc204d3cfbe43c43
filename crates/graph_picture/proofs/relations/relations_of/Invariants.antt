use Rattle.std.proofs.Common.{◌≡◌, take}
use Rattle.graph_picture.specs.Relations.{relations_of}
use Rattle.graph_picture.proofs.relations.relations_of.Given as goal

-- the relations so far
abbrev pub invariant-rows : goal.invariant-rows
invariant-rows l = l.pairs.items ≡ relations_of l.count (take l.row-index l.rows)
