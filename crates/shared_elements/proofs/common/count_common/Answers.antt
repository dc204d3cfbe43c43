use Rattle.std.proofs.Common.{◌≡◌, ◌+◌, get_or, sym, ◌∙◌, subst, arith}
use Rattle.std.proofs.lemmas.Bool.{false≢true}
use Rattle.std.proofs.lemmas.List.{get_or_default}
use Rattle.shared_elements.proofs.ElementLemmas.{CommonBelow, common_all, common_more, common_past}
use Rattle.shared_elements.proofs.common.count_common.Goals as goal
use Rattle.shared_elements.proofs.common.count_common.Goals.{then-has_element, else-has_element}

pub elements-preserved : goal.elements-preserved
elements-preserved c =
    let one = c.args.one.now in
    let other = c.args.other.now in
    let i = c.elements.index in
    let x = get_or one i 0 in
    let is : x ≡ get_or one i x = get_or_default one i 0 x c.elements-test.true in
    elim c.if-has_element.branch [
      | then-has_element w ↦ subst (CommonBelow one other (i + 1)) (sym w.count-is) (common_more one other i c.elements.count x c.elements-test.true is c.elements.invariant c.requires.one (c.has_element.ensures.0 w.if-has_element.true))
      | else-has_element w ↦ subst (CommonBelow one other (i + 1)) (sym w.count-is) (common_past one other i c.elements.count x c.elements-test.true is c.elements.invariant (λ h. false≢true (sym w.if-has_element.false ∙ c.has_element.ensures.1 h)))
    ]

pub returns : goal.returns
returns c = common_all c.args.one.now c.args.other.now c.elements.index c.elements.count (let f = c.elements-test.false in omega arith) c.elements.invariant
