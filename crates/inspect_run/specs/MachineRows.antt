-- The rows on the clock of each machine.
use Rattle.std.specs.Prelude.{ℕ, ◌++◌, List, [], Option, None, Some, codes, take}
use Rattle.std.specs.List.{flat_map}
use Rattle.machine_quality.specs.MachineTallies.{machine_tally, machines_told}
use Rattle.machine_quality.specs.Told.{NamedClock}
use Rattle.machine_quality.specs.declared.machine_tally.MachineTally.{MachineTally}
use Rattle.machine_quality.specs.declared.machine_tally.OffsetRange.{OffsetRange}
use Rattle.inspect_run.specs.Levels.{share_level}
use Rattle.inspect_run.specs.Rows.{row_text, signed_row_text}
use Rattle.inspect_run.specs.declared.level.Level.TheVariants.{Fine}

-- the row of in how many of so many traces this is told of a machine
abbrev pub clock_row : (machine : List ℕ) → (count of : ℕ) → (what : List ℕ) → List ℕ
clock_row machine count of what =
    row_text (codes "clock") (share_level (record { count = count; of = of; first = None })) count of
    machine what

-- the row of the least and the greatest offset, where a machine has any
abbrev pub range_row : (machine : List ℕ) → Option OffsetRange → List ℕ
range_row machine None = []
range_row machine (Some r) =
    signed_row_text (codes "clock") Fine r.least r.greatest machine
    (codes "least and greatest offset")

-- the rows of a machine of which this is told
abbrev pub tally_rows : (machine : List ℕ) → MachineTally → List ℕ
tally_rows machine t =
    clock_row machine t.unreached t.told (codes "no offset")
    ++ clock_row machine t.contradicted t.reached (codes "delays contradict")
    ++ range_row machine t.range

abbrev pub rows_of_machine : List NamedClock → (machine : List ℕ) → List ℕ
rows_of_machine told machine = tally_rows machine (machine_tally told machine)

-- the rows of each machine, in the order of first sight, of at most 100
abbrev pub machine_rows : List NamedClock → List ℕ
machine_rows told = flat_map (rows_of_machine told) (take 100 (machines_told told))
