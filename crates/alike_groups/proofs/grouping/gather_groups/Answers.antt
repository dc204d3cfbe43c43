use Rattle.std.proofs.Common.{◌<◌, ◌≤◌, ◌^◌, length, arith, rules}
use Rattle.std.proofs.lemmas.Option.{IfSome_then}
use Rattle.alike_groups.specs.declared.group.Group.{Group}
use Rattle.alike_groups.proofs.GroupLemmas.{grouped_all, grouped_few, grouped_more}
use Rattle.alike_groups.proofs.grouping.gather_groups.Goals as goal

pub add_element-requires : goal.add_element-requires
add_element-requires g c =
    let le : c.elements.index ≤ length c.args.elements.now = omega (arith, c.elements-test.true) in
    let few : length c.args.elements.now < 2 ^ 64 = search rules in
    IfSome_then _ {Q = λ (x : Group). x.count < 18446744073709551615} (grouped_few g.K.PartialEq.eq g.met.K.Eq.laws c.args.elements.now c.elements.index c.elements.groups c.index-elements-index.result le c.elements.invariant)
    (λ x p. omega (arith, p, c.elements-test.true, few))

pub elements-preserved : goal.elements-preserved
elements-preserved g c =
    let x = c.index-elements-index.result in
    grouped_more g.K.PartialEq.eq g.met.K.Eq.laws c.args.elements.now c.elements.index x x c.elements.groups c.add_element.new.groups (omega (arith, c.elements-test.true)) c.index-elements-index.is c.elements.invariant c.in_ok-add_element.ensures.each c.in_ok-add_element.ensures.keys

pub returns : goal.returns
returns g c = grouped_all g.K.PartialEq.eq g.met.K.Eq.laws c.args.elements.now c.elements.index c.elements.groups (omega (arith, c.elements-test.false)) c.elements.invariant
