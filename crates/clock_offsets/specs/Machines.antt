-- The machines of a trace, by name.
use Rattle.std.specs.Prelude.{◌≡◌, ℕ, false, Some, List, slice_get}
use Rattle.std.specs.Cmp.Lexicographic.{slice_cmp}
use Rattle.std.specs.Ordering.{nat_cmp, is_gt}
use Rattle.trace_types.specs.declared.event.Event.{Event}
use Rattle.trace_types.specs.Events.{machines_of}

-- the reference is the machine of the first event
abbrev pub IsReference : List Event → List ℕ → Type 0
IsReference events m = slice_get (machines_of events) 0 ≡ Some m

-- the name m is not after the name n in byte order
abbrev pub IsNotAfter : List ℕ → List ℕ → Type 0
IsNotAfter m n = is_gt (slice_cmp nat_cmp m n) ≡ false
