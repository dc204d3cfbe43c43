use Rattle.std.proofs.Common.{◌≡◌, ◌∙◌, ap, Bor, List, ℕ, length, sym, Some}
use Rattle.std.specs.Prelude.{is_some, position}
use Rattle.std.specs.Str.{bytes_eq}
use Rattle.std.proofs.lemmas.List.{length-map}
use Rattle.context_names.specs.Machines.{MachineNames, has_machine}
use Rattle.context_names.specs.inner.Keys.{lent_bases}
use Rattle.context_names.proofs.MachineLemmas.{found_none, found_some}
use Rattle.context_names.proofs.machines.MachineNames.name.Goals as goal

pub returns-in-Some-clause-found : goal.returns-in-Some-clause-found
returns-in-Some-clause-found c =
    let machines = lent_bases c.self.inside.machines.keys in
    let names = c.self.inside.names.items in
    let m = c.args.machine.now in
    let size : length names ≡ length machines = c.self.invariant ∙ sym (length-map c.self.inside.machines.keys (λ (t : Bor (List ℕ)). t.now)) in
    let at : position (bytes_eq m) machines ≡ Some c.in-Some.index = ap (λ (v : MachineNames). position (bytes_eq m) v.machines) c.self.view_is ∙ sym c.in-Some.ensures in
    found_some machines names m c.in-Some.index (is_some c.get.result) c.deref.result.now c.deref.ensures.value size at c.get.ensures.lookup.0 ∙ ap (λ (v : MachineNames). has_machine v m) c.self.view_is

pub returns-in-None-clause-found : goal.returns-in-None-clause-found
returns-in-None-clause-found c = found_none c.args.self.now.machines c.args.self.now.names c.args.machine.now (sym c.in-None.ensures)
