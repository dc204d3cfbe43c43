-- What the vertices of a trace add to the rows of names.
use Rattle.std.specs.Prelude.{◌≡◌, ◌⊎◌, ℕ, ◌+◌, ◌^◌, ◌<◌, ◌≤◌, List, length, slice_index_or}
use Rattle.gain_table.specs.declared.gain_row.GainRow.{GainRow}
use Rattle.path_gains.specs.declared.gain.Gain.{Gain}
use Rattle.trace_figures.specs.declared.trace_figures.TraceFigures.{TraceFigures}
use Rattle.trace_rules.specs.CriticalPaths.{StandsFor}
use Rattle.trace_types.specs.declared.named_segment.NamedSegment.{NamedSegment}
use Rattle.trace_types.specs.declared.named_trace.NamedTrace.{NamedTrace}

-- a row of nothing
abbrev pub empty_row : ℕ → GainRow
empty_row name = record { name = name; none = 0; half = 0 }

-- the row of a name by its number
abbrev pub row_at : List GainRow → ℕ → GainRow
row_at rows name = slice_index_or rows name (empty_row 0)

-- no gain
abbrev pub nothing : Gain
nothing = record { none = 0; half = 0 }

-- what a vertex gains
abbrev pub gain_at : TraceFigures → ℕ → Gain
gain_at figures v = slice_index_or figures.gains.items v nothing

-- a vertex stands for a segment with this name
abbrev pub HasName : NamedTrace → List ℕ → ℕ → ℕ → Type 0
HasName trace order name v =
    (s : NamedSegment) × StandsFor trace.segments order v s × (s.name ≡ name)

-- what a name gains by the first so many vertices of a trace: what the vertex with the name gains,
-- and nothing where none has it
abbrev pub IsGainOf : NamedTrace → TraceFigures → (count name : ℕ) → Gain → Type 0
IsGainOf trace figures count name gain =
    ((v : ℕ) × (v < count) × HasName trace figures.order name v × (gain ≡ gain_at figures v))
    ⊎ (((v : ℕ) → v < count → HasName trace figures.order name v → ⊥) × (gain ≡ nothing))

-- a gain of 64 bits
abbrev pub IsShort : Gain → Type 0
IsShort gain = (gain.none < 2 ^ 64) × (gain.half < 2 ^ 64)

-- a row with a gain added
abbrev pub raised_row : GainRow → Gain → GainRow
raised_row row gain =
    record { name = row.name; none = row.none + gain.none; half = row.half + gain.half }

-- a row has room for one more gain of 64 bits
abbrev pub HasRoom : GainRow → Type 0
HasRoom row = (row.none + 2 ^ 64 ≤ 2 ^ 128) × (row.half + 2 ^ 64 ≤ 2 ^ 128)

-- the row of each name has grown by what the name gains by the first so many vertices of a trace
pub record HaveGrown (trace : NamedTrace) (figures : TraceFigures) (count : ℕ)
    (old new : List GainRow) : Type 0 where
  pub rows : length new ≡ length old
  pub each : (name : ℕ) → name < length old → (gain : Gain)
      × IsGainOf trace figures count name gain × IsShort gain
      × (row_at new name ≡ raised_row (row_at old name) gain)
