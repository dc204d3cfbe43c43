use Rattle.std.proofs.Common.{◌∙◌, ap, Bor, List, ℕ, sym}
use Rattle.std.specs.Prelude.{position}
use Rattle.std.specs.Str.{bytes_eq}
use Rattle.call_contexts.proofs.ListLemmas.{position-map}
use Rattle.context_names.specs.Machines.{MachineNames}
use Rattle.context_names.proofs.machines.MachineNames.find.Goals as goal

pub returns : goal.returns
returns c =
    let p = bytes_eq c.args.machine.now in
    c.get_index_of.ensures.index ∙ sym (position-map (λ (t : Bor (List ℕ)). t.now) p c.self.inside.machines.keys)
    ∙ ap (λ (v : MachineNames). position p v.machines) c.self.view_is
