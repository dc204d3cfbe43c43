-- What a cell of the matrix shows, and how large.
use Rattle.std.specs.Prelude.{ℕ, ◌+◌, ◌-◌, ◌==◌, List, codes, if◌then◌else◌, is_some}
use Rattle.std.specs.Prelude.{nat_le, nat_lt}
use Rattle.page_rows.specs.declared.model_rows.BetweenRow.{BetweenRow}
use Rattle.picture_parts.specs.Places.{part_of}
use Rattle.matrix_picture.specs.declared.mark.Mark.{Mark}
use Rattle.matrix_picture.specs.declared.mark.Mark.TheVariants.{Full, Part, Exclusive, Overlap}
use Rattle.matrix_picture.specs.declared.mark.Mark.TheVariants.{Nothing}

-- what a cell shows of the pairs of names of two boxes that are in one load: whole where in each of
-- them the first happens before the second, nothing where there is none, or where only the second
-- happens before the first
abbrev pub mark_of : BetweenRow → Mark
mark_of row =
    if row.both == 0 then Nothing else if nat_le row.both row.before then Full
    else if nat_lt 0 row.before then Part else if nat_lt 0 row.exclusive then Exclusive
    else if is_some row.overlap then Overlap else Nothing

-- the class in which it is drawn
abbrev pub mark_class : Mark → List ℕ
mark_class Full = codes "full"
mark_class Part = codes "part"
mark_class Exclusive = codes "excl"
mark_class Overlap = codes "over"
mark_class Nothing = codes "none"

-- its edge in pixels, in a cell with this edge: of a part it grows with the share of names that
-- happen before others
abbrev pub mark_edge : Mark → (cell : ℕ) → BetweenRow → ℕ
mark_edge Full cell row = cell - 1
mark_edge Part cell row = 3 + part_of (cell - 4) row.before row.both
mark_edge Exclusive cell row = cell - 3
mark_edge Overlap cell row = 4
mark_edge Nothing cell row = 0
