use Rattle.std.proofs.Common.{◌<◌, All, length, subst, sym}
use Rattle.std.proofs.lemmas.Result.{IfOk-weaker}
use Rattle.alike_groups.specs.declared.group.Group.{Group}
use Rattle.alike_groups.proofs.LawLemmas.{groups_within}
use Rattle.alike_groups.proofs.grouping.group_alike.Goals as goal

pub returns-clause-groups : goal.returns-clause-groups
returns-clause-groups g c = c.list_groups.ensures c.args.elements.now c.in_ok-groups.ensures

pub returns-clause-within : goal.returns-clause-within
returns-clause-within g c =
    IfOk-weaker c.list_groups.result _ _ (λ v h. subst (All (λ (x : Group). x.first < length c.args.elements.now)) (sym h) (groups_within g.K.PartialEq.eq g.met.K.Eq.laws.refl c.args.elements.now)) (c.list_groups.ensures c.args.elements.now c.in_ok-groups.ensures)
