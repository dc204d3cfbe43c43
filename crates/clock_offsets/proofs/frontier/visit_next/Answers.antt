use Rattle.std.proofs.Common.{◌≡◌, ◌<◌, ℕ, List, [], Vec, length, get_or, take, sym, ap, ◌∙◌, subst, arith, Contains}
use Rattle.std.specs.declared.alloc.Global.{Global}
use Rattle.std.proofs.lemmas.List.{take_more, get_or-map}
use Rattle.std.proofs.lemmas.List.Elements.{Contains-get_or, All-contains}
use Rattle.clock_offsets.specs.declared.link.Link.{Link}
use Rattle.clock_offsets.specs.inner.Search.{LinksTo, Visits}
use Rattle.clock_offsets.specs.inner.Links.{LeadBelow, links_at}
use Rattle.clock_offsets.proofs.VisitLemmas.{frontier_more}
use Rattle.clock_offsets.proofs.frontier.visit_next.Goals as goal

pub visit_linked-requires-clause-within : goal.visit_linked-requires-clause-within
visit_linked-requires-clause-within c =
    let x : ℕ = get_or c.args.frontier.now c.loop-machine.machine-index 0 in
    let below : x < length c.args.links.now = All-contains (λ (v : ℕ). v < length c.args.links.now) c.args.frontier.now x c.requires.frontier (Contains-get_or c.args.frontier.now c.loop-machine.machine-index 0 (omega arith)) in
    let held : links_at c.args.links.now x ≡ c.deref.result.now = get_or-map (λ (v : Vec Link Global). v.items) c.args.links.now x c.index-links-machine.result [] below ∙ (ap (λ (v : Vec Link Global). v.items) (sym c.index-links-machine.is) ∙ sym c.deref.ensures.value) in
    let lead : LeadBelow (length c.args.depths.now) (links_at c.args.links.now x) = c.requires.within x below in
    λ l h. let lt : l.to < length c.args.depths.now = lead l (subst (λ (ls : List Link). Contains ls l) (sym held) h) in omega (arith, c.loop-machine.auto.depths)

pub loop-machine-preserved : goal.loop-machine-preserved
loop-machine-preserved c =
    let x : ℕ = get_or c.args.frontier.now c.loop-machine.machine-index 0 in
    let below : x < length c.args.links.now = All-contains (λ (v : ℕ). v < length c.args.links.now) c.args.frontier.now x c.requires.frontier (Contains-get_or c.args.frontier.now c.loop-machine.machine-index 0 (omega arith)) in
    let held : links_at c.args.links.now x ≡ c.deref.result.now = get_or-map (λ (v : Vec Link Global). v.items) c.args.links.now x c.index-links-machine.result [] below ∙ (ap (λ (v : Vec Link Global). v.items) (sym c.index-links-machine.is) ∙ sym c.deref.ensures.value) in
    rw (take_more c.args.frontier.now c.loop-machine.machine-index 0 (omega arith)) (record {
      visited = frontier_more c.args.links.now (take c.loop-machine.machine-index c.args.frontier.now) x c.args.depth c.args.depths.now c.loop-machine.depths c.visit_linked.new.depths c.loop-machine.invariant.visited
          (subst (λ (ls : List Link). Visits (LinksTo ls) c.args.depth c.loop-machine.depths c.visit_linked.new.depths) (sym held) c.in_ok-visit_linked.ensures.visited);
      frontier = c.in_ok-visit_linked.ensures.frontier;
      counted = omega (arith, c.loop-machine.invariant.counted, c.in_ok-visit_linked.ensures.counted);
    })
