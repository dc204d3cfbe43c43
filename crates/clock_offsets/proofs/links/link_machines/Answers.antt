use Rattle.std.proofs.Common.{◌≡◌, ◌<◌, ◌++◌, ◌∷◌, [], ℕ, ℤ, Some, None, List, Vec, length, map, set, refl, sym, ap, ◌∙◌, subst, arith, rules, ◌-ℤ◌}
use Rattle.std.specs.declared.alloc.Global.{Global}
use Rattle.std.specs.Map.Iter.{deref_pair}
use Rattle.std.proofs.lemmas.List.{map-set, get_or-map, map_push}
use Rattle.std.proofs.lemmas.Map.Iter.{btree_map_turn, iter_end}
use Rattle.std.specs.Prelude.{FitsSigned}
use Rattle.std.proofs.lemmas.Int.{to_z-of_z}
use mir.Syntax.{w64}
use mir.Val.{to_z, of_z}
use Rattle.clock_offsets.specs.declared.link.Link.{Link}
use Rattle.clock_offsets.specs.Messages.{IsHalf}
use Rattle.clock_offsets.specs.inner.Links.{links_of, links_at}
use Rattle.clock_offsets.specs.inner.Delays.{least_in}
use Rattle.clock_offsets.proofs.DelayLemmas.{way_total}
use Rattle.clock_offsets.proofs.LinkLemmas.{AreLinksTo, Entry, links_skip, links_push, links_done, link_of, below}
use Rattle.clock_offsets.proofs.links.link_machines.Goals as goal

pub index_mut-requires : goal.index_mut-requires
index_mut-requires c =
    let back : least_in c.args.least.now c.in-Some.way.now.1 c.in-Some.way.now.0 ≡ Some c.in-Some-copied.back = sym c.get.ensures.value ∙ (sym c.copied.ensures ∙ c.in-Some-copied.is) in
    let within : c.in-Some.way.now.1 < length c.args.trace.now.trace.events = below c.args.trace.now.trace.events c.args.numbers.now c.args.least.now c.in-Some.way.now.1 c.in-Some.way.now.0 c.in-Some-copied.back c.requires.numbered c.requires.delays back in
    omega (arith, c.loop-way.links.ok.0, c.loop-way.invariant.each)

pub loop-way-preserved-in-Continue-branch-2 : goal.loop-way-preserved-in-Continue-branch-2
loop-way-preserved-in-Continue-branch-2 c =
    let v : ℕ = c.in-Some.way.now.0 in
    let w : ℕ = c.in-Some.way.now.1 in
    let back : least_in c.args.least.now c.in-Some.way.now.1 c.in-Some.way.now.0 ≡ Some c.in-Some-copied.back = sym c.get.ensures.value ∙ (sym c.copied.ensures ∙ c.in-Some-copied.is) in
    let within : c.in-Some.way.now.1 < length c.args.trace.now.trace.events = below c.args.trace.now.trace.events c.args.numbers.now c.args.least.now c.in-Some.way.now.1 c.in-Some.way.now.0 c.in-Some-copied.back c.requires.numbered c.requires.delays back in
    let turn = btree_map_turn deref_pair c.loop-way.yielded c.into_iter-way-iterator.result c.loop-way.way-iterator c.next.new.self c.next.result (c.in-Some.way, c.in-Some.there) c.loop-way.yielded_by c.in-Some.is c.next.ensures.steps
    way_total c.args.least.now c.into_iter-way-iterator.ensures.into_iter_gives.0 c.requires.delays.ordered in
    let there : least_in c.args.least.now c.in-Some.way.now.0 c.in-Some.way.now.1 ≡ Some c.in-Some.there.now = turn.1 in
    let link : Link = record { to = c.in-Some.way.now.0; offset = to_z w64 (of_z w64 c.half_difference.result) } in
    let fits : FitsSigned w64 c.half_difference.result = search rules in
    let half : IsHalf (c.in-Some.there.now -ℤ c.in-Some-copied.back) link.offset = subst (λ (o : ℤ). IsHalf (c.in-Some.there.now -ℤ c.in-Some-copied.back) o) (sym (to_z-of_z w64 c.half_difference.result fits)) (let h = c.half_difference.ensures in search rules) in
    let held : links_at c.loop-way.links.items c.in-Some.way.now.1 ≡ c.index_mut.result.now.items = get_or-map (λ (x : Vec Link Global). x.items) c.loop-way.links.items c.in-Some.way.now.1 c.index_mut.result.now [] (omega (arith, c.loop-way.invariant.each)) ∙ ap (λ (x : Vec Link Global). x.items) (sym c.index_mut.ensures.value) in
    let pushed : c.push.new.self.items ≡ links_at c.loop-way.links.items c.in-Some.way.now.1 ++ link ∷ [] = c.in_ok-push.ensures.items ∙ ap (λ ls. ls ++ link ∷ []) (sym held) in
    subst (λ (es : List Entry). AreLinksTo c.args.trace.now.trace.events c.args.numbers.now es c.args.least.now (set c.loop-way.links.items c.in-Some.way.now.1 c.push.new.self)) (sym (map_push deref_pair c.loop-way.yielded (c.in-Some.way, c.in-Some.there)))
    (links_push c.args.trace.now.trace.events c.args.numbers.now (map deref_pair c.loop-way.yielded) c.args.least.now c.loop-way.links.items (set c.loop-way.links.items c.in-Some.way.now.1 c.push.new.self) c.in-Some.way.now.0 c.in-Some.way.now.1 c.in-Some.there.now link c.loop-way.invariant within refl
    (link_of c.args.trace.now.trace.events c.args.numbers.now c.args.least.now c.in-Some.way.now.0 c.in-Some.way.now.1 c.in-Some.there.now c.in-Some-copied.back link c.requires.delays there back refl half)
    (map-set (λ (x : Vec Link Global). x.items) c.loop-way.links.items c.in-Some.way.now.1 c.push.new.self ∙ ap (set (links_of c.loop-way.links.items) c.in-Some.way.now.1) pushed))

pub loop-way-preserved : goal.loop-way-preserved
loop-way-preserved c =
    let none : least_in c.args.least.now c.in-Some.way.now.1 c.in-Some.way.now.0 ≡ None = sym c.get.ensures.value ∙ (sym c.copied.ensures ∙ c.in_default.is) in
    subst (λ (es : List Entry). AreLinksTo c.args.trace.now.trace.events c.args.numbers.now es c.args.least.now c.loop-way.links.items) (sym (map_push deref_pair c.loop-way.yielded (c.in-Some.way, c.in-Some.there)))
    (links_skip c.args.trace.now.trace.events c.args.numbers.now (map deref_pair c.loop-way.yielded) c.args.least.now c.loop-way.links.items (c.in-Some.way.now, c.in-Some.there.now) c.loop-way.invariant none)

pub returns : goal.returns
returns c =
    let end = iter_end deref_pair c.args.least.now.entries c.loop-way.yielded c.into_iter-way-iterator.result c.loop-way.way-iterator c.next.new.self c.next.result c.into_iter-way-iterator.ensures.into_iter_gives.0 c.loop-way.yielded_by c.in-None.is c.next.ensures.steps in
    links_done c.args.trace.now.trace.events c.args.numbers.now c.args.least.now (map deref_pair c.loop-way.yielded) c.loop-way.links.items c.requires.delays end.0 c.loop-way.invariant
