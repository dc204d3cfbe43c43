-- Rows that are picked by an order.
use Rattle.std.specs.Prelude.{◌≡◌, ℕ, List, Some, map, slice_get}
use Rattle.evidence_rules.specs.declared.sharing.Sharing.{Sharing}
use Rattle.evidence_rules.specs.declared.pair_row.PairRow.{PairRow}

-- the rows that stand at the places of the order
abbrev pub IsPicked : List (PairRow Sharing) → List (ℕ × ℕ) → List (PairRow Sharing) → Type 0
IsPicked rows order picked = map Some picked ≡ map (λ x. slice_get rows x.1) order
