-- What rows without the implied ones keep: statements that laws prove.
use Rattle.std.specs.Prelude.{◌↔◌, ℕ, false, true, List, Contains, map}
use Rattle.evidence_rules.specs.EvidenceRows.{AreReduced, places_of}
use Rattle.evidence_rules.specs.Reaching.{IsImplied, Reaches}
use Rattle.evidence_rules.specs.declared.choice.Choice.{Choice}
use Rattle.evidence_rules.specs.declared.pair_row.PairRow.{PairRow}
use Rattle.session_rules.specs.EvidenceTexts.{IsEvidenceText}
use Rattle.session_rules.specs.KeptTraces.{Kept}
use Rattle.trace_types.specs.Segments.{SegmentName}
use Rattle.row_laws.specs.ModelRows.{TwoNames}
use Rattle.row_laws.specs.NamedRows.{NameExactly, NameInTurn}

-- over rows, and over those of them that are not implied, the same places reach each other
abbrev pub PlacesReachTheSame : Type 0 → Type 0
PlacesReachTheSame F = (rows left : List (PairRow F)) → AreReduced rows left
    → (a b : ℕ) → Reaches (map places_of rows) a b ↔ Reaches (map places_of left) a b

-- the choice of what so many traces support: with all orders, and without those that are implied
abbrev pub with_all : ℕ → Choice
with_all least = record { least = least; reduced = false }

abbrev pub without_implied : ℕ → Choice
without_implied least = record { least = least; reduced = true }

-- of two texts of the evidence of kept traces, one with all orders and one without those that are
-- implied, the second names exactly those orders of the first that no others imply
abbrev pub NotImpliedAreLeft : Type 0
NotImpliedAreLeft = (least : ℕ) (kept : List Kept) (bytes others : List ℕ)
    (all : IsEvidenceText (with_all least) kept bytes)
    (left : IsEvidenceText (without_implied least) kept others) (pairs : List TwoNames)
    → NameInTurn all.names all.rows.orders pairs → NameExactly left.names
    (λ pair. Contains pairs pair × (IsImplied pairs pair.0 pair.1 → ⊥)) left.rows.orders

-- and over the orders of the first and of the second the same names reach each other
abbrev pub NamesReachTheSame : Type 0
NamesReachTheSame = (least : ℕ) (kept : List Kept) (bytes others : List ℕ)
    (all : IsEvidenceText (with_all least) kept bytes)
    (left : IsEvidenceText (without_implied least) kept others) (pairs few : List TwoNames)
    → NameInTurn all.names all.rows.orders pairs → NameInTurn left.names left.rows.orders few
    → (a b : SegmentName) → Reaches pairs a b ↔ Reaches few a b
