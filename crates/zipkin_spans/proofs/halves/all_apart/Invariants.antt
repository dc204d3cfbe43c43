use Rattle.std.proofs.Common.{◌≡◌, ◌++◌, map}
use Rattle.std.specs.Vec.Iter.{into_iter_items}
use Rattle.zipkin_spans.specs.Halves.{placed_apart}
use Rattle.zipkin_spans.proofs.halves.all_apart.Given as goal

-- the spans so far, and those that are left
abbrev pub invariant-spans : goal.invariant-spans
invariant-spans l = l.told.items ++ map (placed_apart l.fn.spans.items) (into_iter_items l.placed-iterator) ≡ map (placed_apart l.fn.spans.items) l.fn.spans.items
