use Rattle.std.proofs.Common.{◌≡◌, ℕ, List, take}
use Rattle.std.specs.BTreeSet.{contains_text}
use Rattle.zipkin_spans.specs.Halves.{has_half}
use Rattle.zipkin_spans.specs.inner.Sides.{is_side}
use Rattle.zipkin_spans.proofs.halves.ids_of_side.Given as goal

-- the ids of the spans so far
abbrev pub invariant-loop-placed : goal.invariant-loop-placed
invariant-loop-placed l = (q : List ℕ) → contains_text l.ids q ≡ has_half (is_side l.side) (take l.placed-index l.spans) q
