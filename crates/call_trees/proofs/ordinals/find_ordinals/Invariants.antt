use Rattle.std.proofs.Common.{◌≡◌, take, unwrap_or}
use Rattle.std.specs.List.{count_by}
use Rattle.indexmap.specs.IndexMap.{get}
use Rattle.call_trees.specs.Ordinals.{ordinals_of}
use Rattle.call_trees.proofs.ordinals.find_ordinals.Given as goal

-- the keys so far are counted
abbrev pub invariant-loop-key : goal.invariant-loop-key
invariant-loop-key g l = record {
  counts : (q : g.row.K.Denot) → unwrap_or (get g.K.PartialEq.eq l.counts q) 0 ≡ count_by (g.K.PartialEq.eq q) (take l.key-index l.keys);
  ordinals : l.ordinals.items ≡ ordinals_of g.K.PartialEq.eq (take l.key-index l.keys);
}
