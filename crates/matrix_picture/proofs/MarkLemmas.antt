-- Marks within their cells.
use Rattle.std.proofs.Common.{ℕ, ◌<◌, ◌≤◌, ◌+◌, ◌-◌, ◌*◌, ◌/◌, Bool, true, false, arith}
use Rattle.std.specs.Prelude.{if◌then◌else◌, nat_le}
use Rattle.std.proofs.Math.Nat.{mul-le-mul_left}
use Rattle.page_rows.specs.declared.model_rows.BetweenRow.{BetweenRow}
use Rattle.picture_parts.specs.Places.{PartIsOnScale}
use Rattle.matrix_picture.specs.declared.mark.Mark.{Mark}
use Rattle.matrix_picture.specs.declared.mark.Mark.TheVariants.{Full, Part, Exclusive, Overlap, Nothing}
use Rattle.matrix_picture.specs.Marks.{mark_edge}
use Rattle.matrix_picture.specs.Matrices.{MarkIsWithin}
use Rattle.matrix_picture.specs.Places.{cell_edge}

module _ (on_scale : PartIsOnScale) where
  -- an edge is within a cell
  edge_within : (mark : Mark) (cell : ℕ) (row : BetweenRow) → 9 ≤ cell → mark_edge mark cell row ≤ cell
  edge_within Full cell row h = omega arith
  edge_within Part cell row h = omega (arith, on_scale (cell - 4) row.before row.both, h)
  edge_within Exclusive cell row h = omega arith
  edge_within Overlap cell row h = omega (arith, h)
  edge_within Nothing cell row h = omega arith

  cell_least : (count : ℕ) → 9 ≤ cell_edge count
  cell_least count = by (nat_le count 24) (nat_le count 44)
    where
      by : (b d : Bool) → 9 ≤ (if b then 16 else if d then 12 else 9)
      by true d = omega arith
      by false true = omega arith
      by false false = omega arith

  pub within : MarkIsWithin
  within mark count number row lt =
      let e = edge_within mark (cell_edge count) row (cell_least count) in
      let more : (number + 1) * cell_edge count ≤ count * cell_edge count = mul_le number count (cell_edge count) lt in
      (omega arith, add number (cell_edge count) (mark_edge mark (cell_edge count) row) e, more)
    where
      mul_le : (n m k : ℕ) → n < m → (n + 1) * k ≤ m * k
      mul_le n m k h =
          let le : n + 1 ≤ m = omega (arith, h) in
          omega (arith, mul-le-mul_left k le)

      add : (n k e : ℕ) → e ≤ k → n * k + (k - e) / 2 + e ≤ (n + 1) * k
      add n k e h = omega (arith, h)
