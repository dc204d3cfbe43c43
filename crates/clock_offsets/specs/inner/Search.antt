-- What the breadth-first search keeps from step to step. Machines are numbers.
use Rattle.std.specs.Prelude.{◌≡◌, ◌⊎◌, ℕ, ◌*◌, ◌^◌, ◌≤◌, ℤ, pos, neg_ℤ, ◌≤ℤ◌, Option, Some, None}
use Rattle.std.specs.Prelude.{IsSome, is_none, count_by, List, length, slice_index_or, Contains}
use Rattle.std.specs.Prelude.{Vec}
use Rattle.std.specs.declared.alloc.Global.{Global}
use Rattle.trace_types.specs.declared.event.Event.{Event}
use Rattle.trace_types.specs.Events.{machine_at}
use Rattle.clock_offsets.specs.declared.link.Link.{Link}
use Rattle.clock_offsets.specs.Machines.{IsNotAfter}
use Rattle.clock_offsets.specs.Depths.{IsReachedIn, HasDepth, IsUnreachable}
use Rattle.clock_offsets.specs.Offsets.{IsOffsetAtDepth, IsOffset}
use Rattle.clock_offsets.specs.inner.Links.{IsNumber, links_at}

-- the depth of a machine, where it has been visited
abbrev pub depth_at : List (Option ℕ) → ℕ → Option ℕ
depth_at depths v = slice_index_or depths v None

-- the machines up to depth k have been visited
pub record AreVisitedTo (events : List Event) (numbers : List ℕ) (k : ℕ)
    (depths : List (Option ℕ)) : Type 0 where
  pub each : length depths ≡ length events
  pub right : (v j : ℕ) → depth_at depths v ≡ Some j → IsNumber numbers v × (j ≤ k)
      × HasDepth events j (machine_at events v)
  pub all : (v j : ℕ) → IsNumber numbers v → depth_at depths v ≡ None → j ≤ k
      → IsReachedIn events j (machine_at events v) → ⊥

-- each machine has its depth, where a path of pairings goes to it
pub record AreDepths (events : List Event) (numbers : List ℕ) (depths : List (Option ℕ))
    : Type 0 where
  pub each : length depths ≡ length events
  pub right : (v j : ℕ) → depth_at depths v ≡ Some j → IsNumber numbers v
      × HasDepth events j (machine_at events v)
  pub none : (v : ℕ) → IsNumber numbers v → depth_at depths v ≡ None
      → IsUnreachable events (machine_at events v)

-- the frontier has the machines of depth k
pub record IsFrontier (k : ℕ) (depths : List (Option ℕ)) (frontier : List ℕ) : Type 0 where
  pub right : (v : ℕ) → Contains frontier v → depth_at depths v ≡ Some k
  pub all : (v : ℕ) → depth_at depths v ≡ Some k → Contains frontier v

-- a link of one of these leads to w
abbrev pub LinksTo : List Link → ℕ → Type 0
LinksTo links w = (l : Link) × Contains links l × (l.to ≡ w)

-- a link of a machine of the frontier leads to w
abbrev pub FrontierLinksTo : List (Vec Link Global) → List ℕ → ℕ → Type 0
FrontierLinksTo links frontier w = (v : ℕ) × Contains frontier v × LinksTo (links_at links v) w

-- the machines in T that had not been visited have depth k now, and nothing else changed
pub record Visits (T : ℕ → Type 0) (k : ℕ) (old new : List (Option ℕ)) : Type 0 where
  pub each : length new ≡ length old
  pub kept : (v j : ℕ) → depth_at old v ≡ Some j → depth_at new v ≡ Some j
  pub fresh : (v j : ℕ) → depth_at new v ≡ Some j → (depth_at old v ≡ Some j)
      ⊎ ((depth_at old v ≡ None) × (j ≡ k) × T v)
  pub found : (v : ℕ) → T v → IsSome (depth_at new v)

-- how many entries have no depth
abbrev pub unvisited : List (Option ℕ) → ℕ
unvisited depths = count_by is_none depths

-- b is a link to a machine of depth k, and no link to a machine of that depth leads to a lesser
-- name
pub record IsBest (events : List Event) (depths : List (Option ℕ)) (k : ℕ) (links : List Link)
    (b : Link) : Type 0 where
  pub among : Contains links b
  pub depth : depth_at depths b.to ≡ Some k
  pub least : (l : Link) → Contains links l → depth_at depths l.to ≡ Some k
      → IsNotAfter (machine_at events b.to) (machine_at events l.to)

-- no link leads to a machine of depth k
abbrev pub HasNone : List (Option ℕ) → ℕ → List Link → Type 0
HasNone depths k links = (l : Link) → Contains links l → depth_at depths l.to ≡ Some k → ⊥

-- o is the offset of the machine v, which has depth k
pub record HasOffset (events : List Event) (k v : ℕ) (o : ℤ) : Type 0 where
  pub adds : IsOffsetAtDepth events k (machine_at events v) o
  pub low : neg_ℤ (pos (k * 2 ^ 63)) ≤ℤ o
  pub high : o ≤ℤ pos (k * 2 ^ 63)

-- the machines up to depth k have their offsets, and those that have not been visited have 0
pub record HaveOffsetsTo (events : List Event) (k : ℕ) (depths : List (Option ℕ))
    (offsets : List ℤ) : Type 0 where
  pub each : length offsets ≡ length events
  pub right : (v j : ℕ) → depth_at depths v ≡ Some j → j ≤ k
      → HasOffset events j v (slice_index_or offsets v (pos 0))
  pub zero : (v : ℕ) → depth_at depths v ≡ None → slice_index_or offsets v (pos 0) ≡ pos 0

-- each machine has its offset
pub record AreMachineOffsets (events : List Event) (numbers : List ℕ)
    (offsets : List ℤ) : Type 0 where
  pub each : length offsets ≡ length events
  pub value : (v : ℕ) → IsNumber numbers v
      → IsOffset events (machine_at events v) (slice_index_or offsets v (pos 0))
