use Rattle.std.proofs.Common.{◌≡◌, ◌∙◌, ◌++◌, ◌∷◌, [], List, ℕ, Vec, Global, None, ap, get_or, set}
use Rattle.std.proofs.lemmas.List.{get_or_default}
use Rattle.call_trees.proofs.GroupLemmas.{group_none, group_some, groups_all, groups_begin, none_of}
use Rattle.call_trees.specs.declared.number_list.NumberList.{NumberList}
use Rattle.call_trees.proofs.grouping.group_below.Goals as goal
use Rattle.call_trees.proofs.grouping.group_below.Goals.{in-Some+in_ok-push, in_default}

pub loop-number-init : goal.loop-number-init
loop-number-init c = groups_begin c.args.above.now c.in_ok-lists.lists.items c.in_ok-lists.ensures

pub loop-number-preserved : goal.loop-number-preserved
loop-number-preserved c =
    let order = c.args.order.now in
    let above = c.args.above.now in
    let i = c.loop-number.number-index in
    let j : ℕ = get_or order i 0 in
    let lists = c.loop-number.lists.items in
    let is : j ≡ get_or order i j = get_or_default order i 0 j c.loop-number-test.true in
    elim c.match-above-number.branch [
      | in-Some+in_ok-push w ↦
          let old = w.index_mut.result.now in
          group_some above order i j c.loop-number-test.true is lists c.match-above-number.lists.items w.in-Some.one old w.in-Some.is (c.requires.above j w.in-Some.one w.in-Some.is) w.index_mut.ensures.value
          (ap (λ (v : Vec NumberList Global). v.items) w.lists-is ∙ ap (λ (ys : List ℕ). set lists w.in-Some.one ys) w.in_ok-push.ensures) c.loop-number.invariant
      | in_default w ↦
          group_none above order i j c.loop-number-test.true is c.match-above-number.lists.items (none_of (get_or above j None) w.in_default.not-Some)
          (ap (λ (v : Vec NumberList Global). v.items) w.lists-is ∙ c.loop-number.invariant)
    ]

pub returns : goal.returns
returns c = groups_all c.args.above.now c.args.order.now c.loop-number.number-index c.loop-number.lists.items c.loop-number-test.false c.loop-number.invariant
