use Rattle.std.proofs.Common.{◌≡◌, ℕ, suc, ◌+◌, ◌<◌, ℤ, pos, Some, List, [], ◌∷◌, ◌++◌, length, get_or, take, set, sym, ap, ◌∙◌, subst, arith, rules, Contains, add-one}
use Rattle.std.proofs.lemmas.List.{take_more, take_all}
use Rattle.std.proofs.lemmas.List.Elements.{Contains-get_or}
use Rattle.std.specs.Prelude.{FitsSigned}
use mir.Syntax.{w64}
use Rattle.clock_offsets.specs.declared.link.Link.{Link}
use Rattle.clock_offsets.specs.inner.Search.{AreVisitedTo, IsFrontier, IsBest, HasNone, HaveOffsetsTo, depth_at}
use Rattle.clock_offsets.specs.inner.Links.{links_at, LeadBelow}
use Rattle.clock_offsets.proofs.ParentLemmas.{frontier_below, links_below, links_read, set_step, offsets_done, some_parent, read_sum_fits, read_sum_is, AreSetTo, fits_low, fits_high}
use Rattle.clock_offsets.proofs.parents.set_offsets.Goals as goal
use Rattle.clock_offsets.proofs.parents.set_offsets.Goals.{in-Some, in_default}

pub offset_bounds-links-machine : goal.offset_bounds-links-machine
offset_bounds-links-machine c =
    let below = frontier_below c.args.trace.now.trace.events c.args.numbers.now (c.args.depth + 1) c.args.depths.now c.args.frontier.now (get_or c.args.frontier.now c.loop-machine.machine-index 0) c.requires.numbered c.requires.visited c.requires.frontier (Contains-get_or c.args.frontier.now c.loop-machine.machine-index 0 (omega arith)) in
    let each : length c.args.links.now ≡ length c.args.trace.now.trace.events = c.requires.linked.each in
    let within : get_or c.args.frontier.now c.loop-machine.machine-index 0 < length c.args.links.now = omega (arith, below) in
    search rules

pub bounds-links-machine : goal.bounds-links-machine
bounds-links-machine c =
    let below = frontier_below c.args.trace.now.trace.events c.args.numbers.now (c.args.depth + 1) c.args.depths.now c.args.frontier.now (get_or c.args.frontier.now c.loop-machine.machine-index 0) c.requires.numbered c.requires.visited c.requires.frontier (Contains-get_or c.args.frontier.now c.loop-machine.machine-index 0 (omega arith)) in
    let each : length c.args.links.now ≡ length c.args.trace.now.trace.events = c.requires.linked.each in
    omega (arith, below)

pub find_parent-requires-clause-within : goal.find_parent-requires-clause-within
find_parent-requires-clause-within c =
    let x : ℕ = get_or c.args.frontier.now c.loop-machine.machine-index 0 in
    let below : x < length c.args.trace.now.trace.events = frontier_below c.args.trace.now.trace.events c.args.numbers.now (c.args.depth + 1) c.args.depths.now c.args.frontier.now x c.requires.numbered c.requires.visited c.requires.frontier (Contains-get_or c.args.frontier.now c.loop-machine.machine-index 0 (omega arith)) in
    let each : length c.args.links.now ≡ length c.args.trace.now.trace.events = c.requires.linked.each in
    let held : links_at c.args.links.now x ≡ c.deref.result.now = links_read c.args.links.now x c.index-links-machine.result (omega arith) c.index-links-machine.is ∙ sym c.deref.ensures.value in
    let lead : LeadBelow (length c.args.trace.now.trace.events) (links_at c.args.links.now x) = links_below c.args.trace.now.trace.events c.args.numbers.now c.args.links.now x c.requires.numbered c.requires.linked below in
    λ l h. let lt : l.to < length c.args.trace.now.trace.events = lead l (subst (λ (ls : List Link). Contains ls l) (sym held) h) in
    let depths : length c.args.depths.now ≡ length c.args.trace.now.trace.events = c.requires.visited.each in
    omega arith

pub overflow_add-offsets : goal.overflow_add-offsets
overflow_add-offsets c =
    let fits : FitsSigned w64 c.in-Some.link.offset = search rules in
    let settled = c.loop-machine.invariant.to.right c.in-Some.link.to c.args.depth c.in-Some.ensures.depth (omega arith) in
    read_sum_fits c.args.depth (get_or c.loop-machine.offsets c.in-Some.link.to (pos 0)) c.in-Some.link.offset c.from.result c.requires.low settled.low settled.high fits c.from.ensures

pub offset_bounds-offsets-machine : goal.offset_bounds-offsets-machine
offset_bounds-offsets-machine c =
    let below = frontier_below c.args.trace.now.trace.events c.args.numbers.now (c.args.depth + 1) c.args.depths.now c.args.frontier.now (get_or c.args.frontier.now c.loop-machine.machine-index 0) c.requires.numbered c.requires.visited c.requires.frontier (Contains-get_or c.args.frontier.now c.loop-machine.machine-index 0 (omega arith)) in
    let each : length c.loop-machine.offsets ≡ length c.args.trace.now.trace.events = c.loop-machine.invariant.to.each in
    let within : get_or c.args.frontier.now c.loop-machine.machine-index 0 < length c.loop-machine.offsets = omega (arith, below) in
    search rules

pub bounds-offsets-machine : goal.bounds-offsets-machine
bounds-offsets-machine c =
    let below = frontier_below c.args.trace.now.trace.events c.args.numbers.now (c.args.depth + 1) c.args.depths.now c.args.frontier.now (get_or c.args.frontier.now c.loop-machine.machine-index 0) c.requires.numbered c.requires.visited c.requires.frontier (Contains-get_or c.args.frontier.now c.loop-machine.machine-index 0 (omega arith)) in
    let each : length c.loop-machine.offsets ≡ length c.args.trace.now.trace.events = c.loop-machine.invariant.to.each in
    omega (arith, below)

pub loop-machine-preserved : goal.loop-machine-preserved
loop-machine-preserved c =
    let x : ℕ = get_or c.args.frontier.now c.loop-machine.machine-index 0 in
    let member : Contains c.args.frontier.now x = Contains-get_or c.args.frontier.now c.loop-machine.machine-index 0 (omega arith) in
    let below : x < length c.args.trace.now.trace.events = frontier_below c.args.trace.now.trace.events c.args.numbers.now (c.args.depth + 1) c.args.depths.now c.args.frontier.now x c.requires.numbered c.requires.visited c.requires.frontier member in
    let each : length c.args.links.now ≡ length c.args.trace.now.trace.events = c.requires.linked.each in
    let held : links_at c.args.links.now x ≡ c.deref.result.now = links_read c.args.links.now x c.index-links-machine.result (omega arith) c.index-links-machine.is ∙ sym c.deref.ensures.value in
    let found : AreVisitedTo c.args.trace.now.trace.events c.args.numbers.now (suc c.args.depth) c.args.depths.now = subst (λ (i : ℕ). AreVisitedTo c.args.trace.now.trace.events c.args.numbers.now i c.args.depths.now) (add-one c.args.depth) c.requires.visited in
    let at : depth_at c.args.depths.now x ≡ Some (suc c.args.depth) = c.requires.frontier.right x member ∙ ap Some (add-one c.args.depth) in
    rw (take_more c.args.frontier.now c.loop-machine.machine-index 0 (omega arith))
    (elim c.match-find_parent.branch [
      | in-Some w ↦
          let fits : FitsSigned w64 w.in-Some.link.offset = search rules in
          let best : IsBest c.args.trace.now.trace.events c.args.depths.now c.args.depth (links_at c.args.links.now x) w.in-Some.link = subst (λ (ls : List Link). IsBest c.args.trace.now.trace.events c.args.depths.now c.args.depth ls w.in-Some.link) (sym held) w.in-Some.ensures in
          let settled = c.loop-machine.invariant.to.right w.in-Some.link.to c.args.depth best.depth (omega arith) in
          rw w.offsets-is (subst (λ (o : ℤ). AreSetTo c.args.trace.now.trace.events c.args.depth c.args.depths.now (take c.loop-machine.machine-index c.args.frontier.now ++ x ∷ []) (set c.loop-machine.offsets x o))
          (sym (read_sum_is c.args.depth (get_or c.loop-machine.offsets w.in-Some.link.to (pos 0)) w.in-Some.link.offset w.from.result c.requires.low settled.low settled.high fits w.from.ensures))
          (set_step c.args.trace.now.trace.events c.args.numbers.now c.args.links.now c.args.depth c.args.depths.now (take c.loop-machine.machine-index c.args.frontier.now) c.loop-machine.offsets x w.in-Some.link
          c.requires.numbered c.requires.linked found c.loop-machine.invariant below at best (fits_low w.in-Some.link.offset fits) (fits_high w.in-Some.link.offset fits)))
      | in_default w ↦
          let none : HasNone c.args.depths.now c.args.depth (links_at c.args.links.now x) = subst (λ (ls : List Link). HasNone c.args.depths.now c.args.depth ls) (sym held) w.in_default.ensures in
          absurd (some_parent c.args.trace.now.trace.events c.args.numbers.now c.args.links.now c.args.depth c.args.depths.now x c.requires.numbered c.requires.linked found at none)
    ])

pub returns : goal.returns
returns c =
    let all : take c.loop-machine.machine-index c.args.frontier.now ≡ c.args.frontier.now = take_all c.loop-machine.machine-index c.args.frontier.now (omega arith) in
    let frontier : IsFrontier (suc c.args.depth) c.args.depths.now c.args.frontier.now = subst (λ (i : ℕ). IsFrontier i c.args.depths.now c.args.frontier.now) (add-one c.args.depth) c.requires.frontier in
    let done : AreSetTo c.args.trace.now.trace.events c.args.depth c.args.depths.now c.args.frontier.now c.loop-machine.offsets = subst (λ (vs : List ℕ). AreSetTo c.args.trace.now.trace.events c.args.depth c.args.depths.now vs c.loop-machine.offsets) all c.loop-machine.invariant in
    subst (λ (i : ℕ). HaveOffsetsTo c.args.trace.now.trace.events i c.args.depths.now c.loop-machine.offsets) (sym (add-one c.args.depth))
    (offsets_done c.args.trace.now.trace.events c.args.depth c.args.depths.now c.args.frontier.now c.loop-machine.offsets done frontier)
