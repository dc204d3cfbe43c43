use Rattle.std.proofs.Common.{◌∙◌, Bor, List, ℕ, [], get_or, sym}
use Rattle.std.proofs.lemmas.List.{get_or_default}
use Rattle.std.proofs.lemmas.Simd.{map-map}
use Rattle.span_names.specs.Names.{base_of, most_of_event}
use Rattle.context_names.proofs.ValueLemmas.{map_done, map_next}
use Rattle.context_names.proofs.machines.machine_bases.Goals as goal

pub loop-machine-preserved : goal.loop-machine-preserved
loop-machine-preserved c =
    let machines = c.args.machines.now in
    let i = c.loop-machine.machine-index in
    let d : Bor (List ℕ) = record { ref_ptr = (0, 0); now = [] } in
    let m : Bor (List ℕ) = get_or machines i d in
    map_next (λ (m : Bor (List ℕ)). base_of most_of_event m.now) machines c.loop-machine.bases.items c.push.new.self.items m c.in_ok-machine_base.field-0 i c.loop-machine-test.true
    (get_or_default machines i d m c.loop-machine-test.true) c.loop-machine.invariant c.in_ok-machine_base.ensures c.in_ok-push.ensures.items

pub returns : goal.returns
returns c =
    map_done (λ (m : Bor (List ℕ)). base_of most_of_event m.now) c.args.machines.now c.loop-machine.bases.items c.loop-machine.machine-index c.loop-machine-test.false c.loop-machine.invariant
    ∙ sym (map-map (base_of most_of_event) (λ (m : Bor (List ℕ)). m.now) c.args.machines.now)
