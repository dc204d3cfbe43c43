-- Supports with their places, in the order of the supports. Places count from 0.
use Rattle.std.specs.Prelude.{◌≡◌, ℕ, List, Some, slice_get}
use Rattle.trace_types.specs.Listing.{ListsExactly}
use Rattle.evidence_rules.specs.EvidenceRows.{by_support}

-- exactly the supports with their places, the most first, and of equal supports the lower place
abbrev pub IsOrder : List ℕ → List (ℕ × ℕ) → Type 0
IsOrder supports order = ListsExactly by_support (λ x. slice_get supports x.1 ≡ Some x.0) order
