use Rattle.std.proofs.Common.{◌<◌, ◌∙◌, All, length, subst, sym}
use Rattle.std.proofs.lemmas.Result.{IfOk-weaker}
use Rattle.alike_groups.specs.Groups.{AreGreatest}
use Rattle.alike_groups.specs.declared.group.Group.{Group}
use Rattle.name_patterns.proofs.families.find_families.Goals as goal

pub returns-clause-families : goal.returns-clause-families
returns-clause-families c =
    IfOk-weaker c.greatest_groups.result _ _ (λ v h. subst (λ gs. AreGreatest 10 100 gs v.items) (c.deref.ensures.value ∙ c.in_ok-groups.ensures.groups) h) c.greatest_groups.ensures.greatest

pub returns-clause-within : goal.returns-clause-within
returns-clause-within c =
    c.greatest_groups.ensures.within (length c.args.patterns.now) (subst (All (λ (g : Group). g.first < length c.args.patterns.now)) (sym c.deref.ensures.value) c.in_ok-groups.ensures.within)
