use Rattle.std.proofs.Common.{◌≡◌, ◌++◌, ◌∙◌, List, ℕ, ap, take}
use Rattle.std.specs.List.{flat_map}
use Rattle.event_table.specs.Numbers.{text_under}
use Rattle.machine_quality.specs.MachineTallies.{machines_told}
use Rattle.machine_quality.specs.Told.{NamedClock, clocks_under}
use Rattle.inspect_run.specs.MachineRows.{machine_rows, rows_of_machine}
use Rattle.inspect_run.proofs.MachineLemmas.{first_rows}
use Rattle.inspect_run.proofs.ResultLemmas.{on_ok_with}
use Rattle.inspect_run.proofs.machine_rows.push_first_machines.Goals as goal

pub returns : goal.returns
returns c =
    let machines : List (List ℕ) = c.args.traces.now.texts.machines in
    let told : List NamedClock = clocks_under machines c.args.told.now in
    let old : List ℕ = c.args.text.now.items in
    let new : List ℕ = c.push_machines.new.text.items in
    on_ok_with {A = new ≡ old ++ flat_map (λ m. rows_of_machine told (text_under machines m)) (take c.min-count.result c.args.machines.now)} {B = new ≡ old ++ machine_rows told} c.push_machines.result
    (λ h. h ∙ ap (λ (t : List ℕ). old ++ t) (first_rows (rows_of_machine told) (text_under machines) c.args.machines.now (machines_told told) 100 c.min-count.result c.min-count.ensures c.requires.are))
    c.push_machines.ensures
