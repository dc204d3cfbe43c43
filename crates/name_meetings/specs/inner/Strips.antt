-- The rows of all names, sixteen in a strip.
use Rattle.std.specs.Prelude.{◌≡◌, ℕ, ◌*◌, ◌/◌, ◌<◌, ◌≤◌, ℤ, List, [], All, length, map}
use Rattle.std.specs.Prelude.{slice_index_or, if◌then◌else◌}
use Rattle.std.specs.declared.vec.Vec.{Vec}
use Rattle.evidence_rules.specs.declared.between.Between.{Between}
use Rattle.trace_types.specs.declared.named_trace.NamedTrace.{NamedTrace}
use Rattle.name_meetings.specs.declared.pair_figures.PairFigures.{PairFigures}
use Rattle.name_meetings.specs.inner.Circles.{is_in_row, place, width}
use Rattle.name_meetings.specs.inner.Noting.{AreNew, TellsBoth, entry, met_onward, met_turned}
use Rattle.name_meetings.specs.inner.Noting.{onwards, turneds}

module _ {G A : Type 0} where
  -- the entries of the strip with this index
  abbrev pub strip_at : List (Vec (PairFigures G) A) → ℕ → List (PairFigures G)
  strip_at strips k =
      slice_index_or (map (λ (strip : Vec (PairFigures G) A). strip.items) strips) k []

  -- the strips have the rows of all names below this number
  pub record AreWhole (names : ℕ) (strips : List (Vec (PairFigures G) A)) : Type 0 where
    pub few : names ≤ 512
    pub rows : names ≤ length strips * 16
    pub long : All (λ (strip : Vec (PairFigures G) A). length strip.items ≡ width names * 16) strips

module _ {G A : Type 0} (value : G → ℤ) where
  -- the strips, at most 32, have the rows of all names below this number, and no meeting yet
  pub record AreNewStrips (names : ℕ) (strips : List (Vec (PairFigures G) A)) : Type 0 where
    pub few : length strips ≤ 32
    pub rows : names ≤ length strips * 16
    pub new : All (λ (strip : Vec (PairFigures G) A). AreNew value names strip.items) strips

  -- the strips have the meetings in these traces
  pub record AreStripsOf (names : ℕ) (traces : List NamedTrace)
      (strips : List (Vec (PairFigures G) A)) : Type 0 where
    pub rows : names ≤ length strips * 16
    pub told : (k : ℕ) → k < length strips
        → TellsBoth value names (16 * k) (strip_at strips k) (met_onward traces) (met_turned traces)

  -- the figures of two names, which stand in the row of the one or of the other
  abbrev pub figures_in : ℕ → List (Vec (PairFigures G) A) → ℕ → ℕ → Between
  figures_in names strips a b = if is_in_row names a b
      then entry (onwards value (strip_at strips (a / 16))) (place names (16 * (a / 16)) a b)
      else entry (turneds value (strip_at strips (b / 16))) (place names (16 * (b / 16)) b a)
