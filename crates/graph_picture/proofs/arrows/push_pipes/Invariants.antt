use Rattle.std.proofs.Common.{◌≡◌, ◌++◌, take}
use Rattle.std.specs.List.{flat_map}
use Rattle.graph_picture.specs.Graphs.{pipe_text}
use Rattle.graph_picture.proofs.arrows.push_pipes.Given as goal

-- the pipelines so far were appended
abbrev pub invariant-pairs : goal.invariant-pairs
invariant-pairs l = l.bytes.items ≡ l.fn.bytes.items ++ flat_map (pipe_text l.places) (take l.pair-index l.pairs)
