use Rattle.std.proofs.Common.{ℕ, ◌<◌, ◌≤◌, length}
use Rattle.segment_names.specs.Naming.{IsUnknownAt}
use Rattle.segment_names.specs.inner.Numbering.{NumbersFirst}
use Rattle.segment_names.proofs.naming.name_segments.Given as goal

abbrev pub invariant-loop-index : goal.invariant-loop-index
invariant-loop-index l = record {
  numbers : NumbersFirst l.catalogue l.elements.keys l.segments l.index l.named.items;
  few : length l.elements.keys ≤ l.index;
  known : (j : ℕ) → j < l.index → IsUnknownAt l.catalogue l.segments j → ⊥;
}
