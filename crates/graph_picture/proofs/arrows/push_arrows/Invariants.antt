use Rattle.std.proofs.Common.{◌≡◌, ◌++◌, take}
use Rattle.std.specs.List.{flat_map}
use Rattle.graph_picture.specs.Graphs.{arrow_text}
use Rattle.graph_picture.proofs.arrows.push_arrows.Given as goal

-- the arrows so far were appended
abbrev pub invariant-pairs : goal.invariant-pairs
invariant-pairs l = l.bytes.items ≡ l.fn.bytes.items ++ flat_map (arrow_text l.places) (take l.pair-index l.pairs)
