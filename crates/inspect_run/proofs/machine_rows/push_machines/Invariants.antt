use Rattle.std.proofs.Common.{◌≡◌, ◌++◌, take}
use Rattle.std.specs.List.{flat_map}
use Rattle.event_table.specs.Numbers.{text_under}
use Rattle.machine_quality.specs.Told.{clocks_under}
use Rattle.inspect_run.specs.MachineRows.{rows_of_machine}
use Rattle.inspect_run.proofs.machine_rows.push_machines.Given as goal

-- the rows of the machines so far were appended
abbrev pub invariant-loop-machine : goal.invariant-loop-machine
invariant-loop-machine l = l.text.items ≡ l.fn.text.items
    ++ flat_map (λ m. rows_of_machine (clocks_under l.traces.texts.machines l.told) (text_under l.traces.texts.machines m)) (take l.machine-index l.machines)
