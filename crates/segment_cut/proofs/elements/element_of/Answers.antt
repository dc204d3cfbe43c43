use Rattle.std.proofs.Common.{◌≡◌, Some, None, arith, rules, sym, subst}
use Rattle.std.specs.Prelude.{option_copied}
use Rattle.std.proofs.lemmas.Grind.{common_steps}
use Rattle.segment_cut.specs.Elements.{HasElement, element_in}
use Rattle.segment_cut.proofs.GivenLemmas.{given_element}
use Rattle.segment_cut.proofs.elements.element_of.Goals as goal

pub returns-in_err-_before-clause-element : goal.returns-in_err-_before-clause-element
returns-in_err-_before-clause-element c =
    let given : option_copied c.from_residual.result ≡ element_in c.args.name.now = grind (arith, common_steps) in
    subst (HasElement c.args.name.now) (sym given) (given_element c.args.name.now)

pub returns-then-is_empty-clause-element : goal.returns-then-is_empty-clause-element
returns-then-is_empty-clause-element c =
    let given : None ≡ element_in c.args.name.now = search rules in
    subst (HasElement c.args.name.now) (sym given) (given_element c.args.name.now)

pub returns-else-is_empty-clause-element : goal.returns-else-is_empty-clause-element
returns-else-is_empty-clause-element c =
    let given : Some c.in_ok-_before.after.now ≡ element_in c.args.name.now = search rules in
    subst (HasElement c.args.name.now) (sym given) (given_element c.args.name.now)
