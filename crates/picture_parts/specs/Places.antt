-- Where a number lies on a scale, in whole steps.
use Rattle.std.specs.Prelude.{ℕ, ◌≤◌, ◌<◌, ◌+◌, ◌-◌, ◌*◌, ◌/◌, ◌==◌, if◌then◌else◌, max, min}
use Rattle.picture_parts.specs.declared.span.Span.{Span}

-- a number on a scale of so many steps that ends at `full`, rounded down and cut at the end
abbrev pub part_of : (steps n full : ℕ) → ℕ
part_of steps n full = if full == 0 then 0 else min steps (n * steps / full)

-- what a part is a share of: all, and at least the part
abbrev pub whole_of : (part all : ℕ) → ℕ
whole_of part all = max part all

-- a number on the width of a picture: a place from 0 to 100,000
abbrev pub place_of : (n full : ℕ) → ℕ
place_of n full = part_of 100000 n full

-- the bar from one number to another, both on the width of a picture
abbrev pub span_of : (from to full : ℕ) → Span
span_of from to full =
    record { x = place_of from full; width = place_of to full - place_of from full }

-- the column of one of so many, from 0, with a gap behind it
abbrev pub column_of : (count number : ℕ) → Span
column_of count number = record {
  x = (span_of number (number + 1) count).x;
  width = (span_of number (number + 1) count).width - 400;
}

-- the mean of a sum over so many, rounded down; 0 of none
abbrev pub mean_of : (sum count : ℕ) → ℕ
mean_of sum count = if count == 0 then 0 else sum / count

-- a place is on the scale, and a greater number lies no further to the left
abbrev pub PartIsOnScale : Type 0
PartIsOnScale = (steps n full : ℕ) → part_of steps n full ≤ steps

abbrev pub PartsKeepOrder : Type 0
PartsKeepOrder =
    (steps n m full : ℕ) → n ≤ m → part_of steps n full ≤ part_of steps m full

-- a number up to the end is less than a step behind its place, and not before it
abbrev pub PartIsExact : Type 0
PartIsExact = (steps n full : ℕ) → n ≤ full → 0 < full
    → (part_of steps n full * full ≤ n * steps) × (n * steps < part_of steps n full * full + full)

-- a bar is within the width
abbrev pub SpanIsWithin : Type 0
SpanIsWithin = (from to full : ℕ) → (span_of from to full).x + (span_of from to full).width ≤ 100000

-- bars of which the first ends before the second begins don't overlap
abbrev pub SpansAreApart : Type 0
SpansAreApart = (from to start end full : ℕ) → from ≤ to → to ≤ start
    → (span_of from to full).x + (span_of from to full).width ≤ (span_of start end full).x
