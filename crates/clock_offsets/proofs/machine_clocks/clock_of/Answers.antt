use Rattle.std.proofs.Common.{◌≡◌, ℕ, suc, ◌-◌, ◌<◌, ℤ, pos, Option, Some, None, List, length, get_or, sym, subst, ap, ◌∙◌, arith, rules, Contains}
use Rattle.std.specs.Prelude.{FitsSigned}
use mir.Syntax.{w128}
use mir.Val.{to_z, of_z}
use Rattle.std.proofs.lemmas.Int.{to_z-of_z}
use Rattle.std.proofs.lemmas.List.{get_or_read}
use Rattle.trace_types.specs.Events.{machine_at}
use Rattle.clock_offsets.specs.declared.link.Link.{Link}
use Rattle.clock_offsets.specs.MachineClocks.{IsRoundTrip}
use Rattle.clock_offsets.specs.Offsets.{IsOffset}
use Rattle.clock_offsets.specs.inner.Links.{links_at, LeadBelow}
use Rattle.clock_offsets.specs.inner.Search.{IsBest, HasNone, depth_at}
use Rattle.clock_offsets.proofs.ClockLemmas.{number_below, depth_above, some_before, parent_is}
use Rattle.clock_offsets.proofs.ParentLemmas.{links_below, links_read}
use Rattle.clock_offsets.proofs.SearchLemmas.{paired_from_against}
use Rattle.clock_offsets.proofs.machine_clocks.clock_of.Goals as goal

pub overflow_sub-depth : goal.overflow_sub-depth
overflow_sub-depth c =
    let lt : c.args.machine < length c.args.trace.now.trace.events = number_below c.args.trace.now.trace.events c.args.numbers.now c.args.found.now.depths.items c.requires.numbered c.requires.depths c.args.machine c.requires.number in
    let each : length c.args.found.now.depths.items ≡ length c.args.trace.now.trace.events = c.requires.depths.each in
    let at : depth_at c.args.found.now.depths.items c.args.machine ≡ Some c.in-Some.depth = sym (get_or_read c.args.found.now.depths.items c.args.machine c.index.result.now (omega arith) c.index.ensures None) ∙ c.in-Some.is in
    depth_above c.args.trace.now.trace.events c.args.numbers.now c.args.found.now.depths.items c.requires.numbered c.requires.depths c.args.machine c.in-Some.depth c.requires.other at

pub find_parent-requires-clause-within : goal.find_parent-requires-clause-within
find_parent-requires-clause-within c =
    let lt : c.args.machine < length c.args.trace.now.trace.events = number_below c.args.trace.now.trace.events c.args.numbers.now c.args.found.now.depths.items c.requires.numbered c.requires.depths c.args.machine c.requires.number in
    let each : length c.args.links.now ≡ length c.args.trace.now.trace.events = c.requires.linked.each in
    let held : links_at c.args.links.now c.args.machine ≡ c.deref.result.now = links_read c.args.links.now c.args.machine c.index-links-machine.result (omega arith) c.index-links-machine.is ∙ sym c.deref.ensures.value in
    let lead : LeadBelow (length c.args.trace.now.trace.events) (links_at c.args.links.now c.args.machine) = links_below c.args.trace.now.trace.events c.args.numbers.now c.args.links.now c.args.machine c.requires.numbered c.requires.linked lt in
    let depths : length c.deref-2.result.now ≡ length c.args.trace.now.trace.events = ap length c.deref-2.ensures.value ∙ c.requires.depths.each in
    λ l h. let less : l.to < length c.args.trace.now.trace.events = lead l (subst (λ (ls : List Link). Contains ls l) (sym held) h) in
    omega arith

-- the depth before, written as the lemmas write it
before_is : (n : ℕ) → 0 < n → n ≡ suc (n - 1)
before_is n above = omega arith

pub returns-in_default-find_parent : goal.returns-in_default-find_parent
returns-in_default-find_parent c =
    let lt : c.args.machine < length c.args.trace.now.trace.events = number_below c.args.trace.now.trace.events c.args.numbers.now c.args.found.now.depths.items c.requires.numbered c.requires.depths c.args.machine c.requires.number in
    let each : length c.args.found.now.depths.items ≡ length c.args.trace.now.trace.events = c.requires.depths.each in
    let at : depth_at c.args.found.now.depths.items c.args.machine ≡ Some c.in-Some.depth = sym (get_or_read c.args.found.now.depths.items c.args.machine c.index.result.now (omega arith) c.index.ensures None) ∙ c.in-Some.is in
    let above : 0 < c.in-Some.depth = depth_above c.args.trace.now.trace.events c.args.numbers.now c.args.found.now.depths.items c.requires.numbered c.requires.depths c.args.machine c.in-Some.depth c.requires.other at in
    let linked : length c.args.links.now ≡ length c.args.trace.now.trace.events = c.requires.linked.each in
    let held : links_at c.args.links.now c.args.machine ≡ c.deref.result.now = links_read c.args.links.now c.args.machine c.index-links-machine.result (omega arith) c.index-links-machine.is ∙ sym c.deref.ensures.value in
    let none : HasNone c.args.found.now.depths.items (c.in-Some.depth - 1) (links_at c.args.links.now c.args.machine) = subst (λ (ls : List Link). HasNone c.args.found.now.depths.items (c.in-Some.depth - 1) ls) (sym held)
    (subst (λ (ds : List (Option ℕ)). HasNone ds (c.in-Some.depth - 1) c.deref.result.now) c.deref-2.ensures.value c.in_default-find_parent.ensures) in
    absurd (some_before c.args.trace.now.trace.events c.args.numbers.now c.args.found.now.depths.items c.requires.numbered c.requires.depths c.args.links.now c.requires.linked (c.in-Some.depth - 1) c.args.machine (at ∙ ap Some (before_is c.in-Some.depth above)) none)

pub round_trip-requires-clause-from : goal.round_trip-requires-clause-from
round_trip-requires-clause-from c =
    let lt : c.args.machine < length c.args.trace.now.trace.events = number_below c.args.trace.now.trace.events c.args.numbers.now c.args.found.now.depths.items c.requires.numbered c.requires.depths c.args.machine c.requires.number in
    let linked : length c.args.links.now ≡ length c.args.trace.now.trace.events = c.requires.linked.each in
    let held : links_at c.args.links.now c.args.machine ≡ c.deref.result.now = links_read c.args.links.now c.args.machine c.index-links-machine.result (omega arith) c.index-links-machine.is ∙ sym c.deref.ensures.value in
    let among : Contains (links_at c.args.links.now c.args.machine) c.in-Some-find_parent.link = subst (λ (ls : List Link). Contains ls c.in-Some-find_parent.link) (sym held) c.in-Some-find_parent.ensures.among in
    (c.requires.linked.right c.args.machine c.in-Some-find_parent.link lt among).1

pub round_trip-requires-clause-paired : goal.round_trip-requires-clause-paired
round_trip-requires-clause-paired c =
    let lt : c.args.machine < length c.args.trace.now.trace.events = number_below c.args.trace.now.trace.events c.args.numbers.now c.args.found.now.depths.items c.requires.numbered c.requires.depths c.args.machine c.requires.number in
    let linked : length c.args.links.now ≡ length c.args.trace.now.trace.events = c.requires.linked.each in
    let held : links_at c.args.links.now c.args.machine ≡ c.deref.result.now = links_read c.args.links.now c.args.machine c.index-links-machine.result (omega arith) c.index-links-machine.is ∙ sym c.deref.ensures.value in
    let among : Contains (links_at c.args.links.now c.args.machine) c.in-Some-find_parent.link = subst (λ (ls : List Link). Contains ls c.in-Some-find_parent.link) (sym held) c.in-Some-find_parent.ensures.among in
    paired_from_against c.args.trace.now.trace.events (machine_at c.args.trace.now.trace.events c.in-Some-find_parent.link.to) (machine_at c.args.trace.now.trace.events c.args.machine) c.in-Some-find_parent.link.offset (c.requires.linked.right c.args.machine c.in-Some-find_parent.link lt among).2

pub returns : goal.returns
returns c =
    let lt : c.args.machine < length c.args.trace.now.trace.events = number_below c.args.trace.now.trace.events c.args.numbers.now c.args.found.now.depths.items c.requires.numbered c.requires.depths c.args.machine c.requires.number in
    let each : length c.args.found.now.depths.items ≡ length c.args.trace.now.trace.events = c.requires.depths.each in
    let at : depth_at c.args.found.now.depths.items c.args.machine ≡ Some c.in-Some.depth = sym (get_or_read c.args.found.now.depths.items c.args.machine c.index.result.now (omega arith) c.index.ensures None) ∙ c.in-Some.is in
    let above : 0 < c.in-Some.depth = depth_above c.args.trace.now.trace.events c.args.numbers.now c.args.found.now.depths.items c.requires.numbered c.requires.depths c.args.machine c.in-Some.depth c.requires.other at in
    let linked : length c.args.links.now ≡ length c.args.trace.now.trace.events = c.requires.linked.each in
    let held : links_at c.args.links.now c.args.machine ≡ c.deref.result.now = links_read c.args.links.now c.args.machine c.index-links-machine.result (omega arith) c.index-links-machine.is ∙ sym c.deref.ensures.value in
    let best : IsBest c.args.trace.now.trace.events c.args.found.now.depths.items (c.in-Some.depth - 1) (links_at c.args.links.now c.args.machine) c.in-Some-find_parent.link = subst (λ (ls : List Link). IsBest c.args.trace.now.trace.events c.args.found.now.depths.items (c.in-Some.depth - 1) ls c.in-Some-find_parent.link) (sym held)
    (subst (λ (ds : List (Option ℕ)). IsBest c.args.trace.now.trace.events ds (c.in-Some.depth - 1) c.deref.result.now c.in-Some-find_parent.link) c.deref-2.ensures.value c.in-Some-find_parent.ensures) in
    let offsets : length c.args.found.now.offsets.items ≡ length c.args.trace.now.trace.events = c.requires.offsets.each in
    let offset_fits : FitsSigned w128 c.index-2.result.now = search rules in
    let round_fits : FitsSigned w128 c.round_trip.result = search rules in
    let offset_is : get_or c.args.found.now.offsets.items c.args.machine (pos 0) ≡ to_z w128 (of_z w128 c.index-2.result.now) = sym (get_or_read c.args.found.now.offsets.items c.args.machine c.index-2.result.now (omega arith) c.index-2.ensures (pos 0)) ∙ sym (to_z-of_z w128 c.index-2.result.now offset_fits) in
    record {
      depth = c.in-Some.depth - 1;
      parent = machine_at c.args.trace.now.trace.events c.in-Some-find_parent.link.to;
      child = parent_is c.args.trace.now.trace.events c.args.numbers.now c.args.found.now.depths.items c.requires.numbered c.requires.depths c.args.links.now c.requires.linked (c.in-Some.depth - 1) c.args.machine c.in-Some-find_parent.link (at ∙ ap Some (before_is c.in-Some.depth above)) best;
      offset = subst (λ (o : ℤ). IsOffset c.args.trace.now.trace.events (machine_at c.args.trace.now.trace.events c.args.machine) o) offset_is (c.requires.offsets.value c.args.machine c.requires.number);
      round = subst (λ (r : ℤ). IsRoundTrip c.args.trace.now.trace.events (machine_at c.args.trace.now.trace.events c.in-Some-find_parent.link.to) (machine_at c.args.trace.now.trace.events c.args.machine) r) (sym (to_z-of_z w128 c.round_trip.result round_fits)) c.round_trip.ensures;
    }
