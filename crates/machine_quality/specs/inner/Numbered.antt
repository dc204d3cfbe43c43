-- What is told of machines by their numbers.
use Rattle.std.specs.Prelude.{ℕ, ◌≡◌, ℤ, ◌==◌, ◌&&◌, ◌++◌, List, [], Bool, Option, count_by, map}
use Rattle.std.specs.Prelude.{if◌then◌else◌}
use Rattle.std.specs.List.{flat_map}
use Rattle.trace_types.specs.Batch.{PlainTrace}
use Rattle.clock_offsets.specs.declared.machine_clock.MachineClock.{MachineClock}
use Rattle.segment_cut.specs.declared.trace_fault.TraceFault.{TraceFault}
use Rattle.trace_quality.specs.Clocks.{AreTraceClocks}
use Rattle.machine_quality.specs.Told.{clocks_under, named_clock}
use Rattle.clock_offsets.specs.declared.machine_clock.Clock.{Clock}
use Rattle.machine_quality.specs.MachineTallies.{offset_in}
use Rattle.machine_quality.specs.declared.numbered_clock.NumberedClock.{NumberedClock}

-- how many clocks of the machine with this number there are
abbrev pub count_numbered : List NumberedClock → ℕ → ℕ
count_numbered clocks machine = count_by (λ (c : NumberedClock). c.machine == machine) clocks

-- how many of them pass the test
abbrev pub count_numbered_passing : (Clock → Bool) → List NumberedClock → ℕ → ℕ
count_numbered_passing test clocks machine =
    count_by (λ (c : NumberedClock). (c.machine == machine) && test c.clock) clocks

-- the offsets of the machine with this number
abbrev pub offsets_numbered : List NumberedClock → ℕ → List ℤ
offsets_numbered clocks machine =
    flat_map (λ (c : NumberedClock). if c.machine == machine then offset_in c.clock else []) clocks

-- what the trace with this fault tells was appended, by the numbers of these machines
pub record Appends (machines : List (List ℕ)) (t : PlainTrace) (fault : Option TraceFault)
    (old new : List NumberedClock) : Type 0 where
  pub clocks : List MachineClock
  pub are : AreTraceClocks t.events fault clocks
  pub joined : clocks_under machines new
      ≡ clocks_under machines old ++ map (named_clock t.events) clocks

-- the numbers of the machines of clocks
abbrev pub numbers_of : List NumberedClock → List ℕ
numbers_of clocks = map (λ (c : NumberedClock). c.machine) clocks
