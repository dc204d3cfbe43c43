-- What is told of a machine, added up. Offsets are in nanoseconds.
use Rattle.std.specs.Prelude.{ℕ, ℤ, ◌&&◌, List, [], ◌∷◌, Bool, Option, Some, None, count_by}
use Rattle.std.specs.Prelude.{fold, if◌then◌else◌, map, not}
use Rattle.std.specs.Int.{int_max, int_min}
use Rattle.std.specs.List.{flat_map}
use Rattle.std.specs.Str.{bytes_eq}
use Rattle.clock_offsets.specs.declared.machine_clock.Clock.{Clock}
use Rattle.clock_offsets.specs.declared.machine_clock.Clock.TheVariants.{Unreachable, Reached}
use Rattle.trace_types.specs.Firsts.{firsts_of}
use Rattle.trace_quality.specs.Clocks.{is_contradicted, is_reached}
use Rattle.machine_quality.specs.Told.{NamedClock}
use Rattle.machine_quality.specs.declared.machine_tally.MachineTally.{MachineTally}
use Rattle.machine_quality.specs.declared.machine_tally.OffsetRange.{OffsetRange}

-- the machines that are told of, in the order of first sight
abbrev pub machines_told : List NamedClock → List (List ℕ)
machines_told told = firsts_of bytes_eq (map (λ (n : NamedClock). n.machine) told)

-- how many clocks of the machine there are
abbrev pub count_told : List NamedClock → List ℕ → ℕ
count_told told machine = count_by (λ (n : NamedClock). bytes_eq n.machine machine) told

-- how many of them pass the test
abbrev pub count_passing : (Clock → Bool) → List NamedClock → List ℕ → ℕ
count_passing test told machine =
    count_by (λ (n : NamedClock). bytes_eq n.machine machine && test n.clock) told

-- the clock has no offset
abbrev pub is_unreached : Clock → Bool
is_unreached clock = not (is_reached clock)

-- the offset of the clock, if it has one
abbrev pub offset_in : Clock → List ℤ
offset_in Unreachable = []
offset_in (Reached offset round_trip) = offset ∷ []

-- the offsets of the machine
abbrev pub offsets_told : List NamedClock → List ℕ → List ℤ
offsets_told told machine =
    flat_map (λ (n : NamedClock). if bytes_eq n.machine machine then offset_in n.clock else []) told

-- the least and the greatest of them, if there is any
abbrev pub range_of : List ℤ → Option OffsetRange
range_of [] = None
range_of (o ∷ os) = Some (record { least = fold int_min o os; greatest = fold int_max o os })

-- what is told of the machine
abbrev pub machine_tally : List NamedClock → List ℕ → MachineTally
machine_tally told machine = record {
  told = count_told told machine;
  reached = count_passing is_reached told machine;
  unreached = count_passing is_unreached told machine;
  contradicted = count_passing is_contradicted told machine;
  range = range_of (offsets_told told machine);
}
