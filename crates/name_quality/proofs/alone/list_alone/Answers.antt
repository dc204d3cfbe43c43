use Rattle.std.proofs.Common.{◌<◌, All, eqb, subst, sym}
use Rattle.std.proofs.lemmas.List.Elements.{All-filter}
use Rattle.std.proofs.lemmas.Result.{IfOk-weaker}
use Rattle.alike_groups.specs.declared.group.Group.{Group}
use Rattle.name_quality.proofs.AloneLemmas.{alone}
use Rattle.name_quality.proofs.alone.list_alone.Goals as goal

pub returns-clause-alone : goal.returns-clause-alone
returns-clause-alone c traces named each are = IfOk-weaker c.list_single.result _ _ (λ v h. alone traces named c.args.groups.now v.items each are h) c.list_single.ensures

pub returns-clause-within : goal.returns-clause-within
returns-clause-within c count all =
    IfOk-weaker c.list_single.result _ _ (λ v h. subst (All (λ (g : Group). g.first < count)) (sym h) (All-filter (λ (g : Group). eqb g.count 1) (λ (g : Group). g.first < count) c.args.groups.now all)) c.list_single.ensures
