-- The offsets of the machines' clocks from the reference's, in nanoseconds.
use Rattle.std.specs.Prelude.{◌≡◌, ◌⊎◌, ℕ, zero, suc, ◌<◌, ℤ, pos, ◌+ℤ◌, ◌-ℤ◌, List, length}
use Rattle.std.specs.Prelude.{slice_index_or}
use Rattle.trace_types.specs.declared.event.Event.{Event}
use Rattle.trace_types.specs.Events.{machine_at}
use Rattle.clock_offsets.specs.Machines.{IsReference, IsNotAfter}
use Rattle.clock_offsets.specs.Messages.{ArePaired, IsRelativeOffset}
use Rattle.clock_offsets.specs.Depths.{HasDepth, IsUnreachable}

-- p is the parent of m, which has depth k + 1: of the machines of depth k that are paired with m,
-- the one whose name is least
pub record IsParent (events : List Event) (k : ℕ) (p m : List ℕ) : Type 0 where
  pub child : HasDepth events (suc k) m
  pub depth : HasDepth events k p
  pub paired : ArePaired events p m
  pub least : (q : List ℕ) → HasDepth events k q → ArePaired events q m → IsNotAfter p q

-- o is the offset of m, which has depth k: 0 for the reference, otherwise its parent's plus m's own
-- relative to it
abbrev pub IsOffsetAtDepth : List Event → ℕ → List ℕ → ℤ → Type 0
IsOffsetAtDepth events zero m o = IsReference events m × (o ≡ pos 0)
IsOffsetAtDepth events (suc k) m o = (p : List ℕ) × (a : ℤ) × (b : ℤ) × IsParent events k p m
    × IsOffsetAtDepth events k p a × IsRelativeOffset events p m b × (o ≡ a +ℤ b)

-- o is the offset of m: by its depth, or 0 where no path goes to it
abbrev pub IsOffset : List Event → List ℕ → ℤ → Type 0
IsOffset events m o = ((k : ℕ) × IsOffsetAtDepth events k m o) ⊎ (IsUnreachable events m
    × (o ≡ pos 0))

-- for each event, by index, the offset of its machine
pub record AreOffsets (events : List Event) (offsets : List ℤ) : Type 0 where
  pub each : length offsets ≡ length events
  pub value : (k : ℕ) → k < length events
      → IsOffset events (machine_at events k) (slice_index_or offsets k (pos 0))

-- a time less the offset of its machine: the same time by the reference's clock
abbrev pub adjusted_time : ℕ → ℤ → ℤ
adjusted_time time offset = pos time -ℤ offset
