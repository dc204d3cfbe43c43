-- Machines as numbers, and the links between paired machines.
use Rattle.std.specs.Prelude.{◌≡◌, ℕ, ◌<◌, List, [], map, length, slice_index_or, Contains, Vec}
use Rattle.std.specs.declared.alloc.Global.{Global}
use Rattle.trace_types.specs.declared.event.Event.{Event}
use Rattle.trace_types.specs.Events.{machine_at}
use Rattle.clock_offsets.specs.declared.first_events.Field.TheVariants.{Machine}
use Rattle.clock_offsets.specs.declared.link.Link.{Link}
use Rattle.clock_offsets.specs.FirstEvents.{AreFirstEvents}
use Rattle.clock_offsets.specs.Messages.{ArePaired, IsRelativeOffset}

-- the number of each event's machine, by index: the index of the machine's first event
abbrev pub AreNumbers : List Event → List ℕ → Type 0
AreNumbers events numbers = AreFirstEvents Machine events numbers

-- v is the number of a machine
abbrev pub IsNumber : List ℕ → ℕ → Type 0
IsNumber numbers v = (v < length numbers) × (slice_index_or numbers v 0 ≡ v)

-- the links of each machine
abbrev pub links_of : List (Vec Link Global) → List (List Link)
links_of links = map (λ (w : Vec Link Global). w.items) links

-- the links of a machine
abbrev pub links_at : List (Vec Link Global) → ℕ → List Link
links_at links v = slice_index_or (links_of links) v []

-- l is a link of the machine v: it leads to a machine that is paired with v, with v's own offset
-- relative to that one
abbrev pub IsLink : List Event → List ℕ → ℕ → Link → Type 0
IsLink events numbers v l = IsNumber numbers v × IsNumber numbers l.to
    × IsRelativeOffset events (machine_at events l.to) (machine_at events v) l.offset

-- a machine has a link to each machine that is paired with it
pub record AreLinks (events : List Event) (numbers : List ℕ)
    (links : List (Vec Link Global)) : Type 0 where
  pub each : length links ≡ length events
  pub right : (v : ℕ) (l : Link) → v < length events → Contains (links_at links v) l
      → IsLink events numbers v l
  pub all : (v w : ℕ) → IsNumber numbers v → IsNumber numbers w
      → ArePaired events (machine_at events v) (machine_at events w)
      → (l : Link) × Contains (links_at links v) l × (l.to ≡ w)

-- each link leads to a number below n
abbrev pub LeadBelow : ℕ → List Link → Type 0
LeadBelow n links = (l : Link) → Contains links l → l.to < n
