use Rattle.std.proofs.Common.{◌<◌, ◌≡◌, ◌∙◌, All, ap, eqb, length, subst}
use Rattle.std.proofs.lemmas.List.{length-map}
use Rattle.std.proofs.lemmas.Result.{IfOk-weaker}
use Rattle.alike_groups.specs.Groups.{groups_of}
use Rattle.alike_groups.specs.declared.group.Group.{Group}
use Rattle.name_quality.specs.inner.Adding.{task_number}
use Rattle.name_quality.proofs.GatherLemmas.{tasks_grouped}
use Rattle.name_quality.proofs.PatternLemmas.{tasks_stand}
use Rattle.name_quality.specs.Names.{names_under}
use Rattle.name_quality.proofs.counting.group_tasks.Goals as goal

pub returns-clause-groups : goal.returns-clause-groups
returns-clause-groups c =
    IfOk-weaker c.group_alike.result _ _ (λ v h. h ∙ ap (groups_of eqb) (c.deref.ensures.value ∙ c.in_ok-tasks.ensures) ∙ tasks_grouped c.args.texts.now c.state_texts_differ.ensures.tasks c.args.names.now c.requires) c.group_alike.ensures.groups

pub returns-clause-within : goal.returns-clause-within
returns-clause-within c =
    let long : length c.deref.result.now ≡ length c.args.names.now = ap length (c.deref.ensures.value ∙ c.in_ok-tasks.ensures) ∙ length-map c.args.names.now task_number in
    IfOk-weaker c.group_alike.result _ _ (λ v h. subst (λ n. All (λ (g : Group). g.first < n) v.items) long h) c.group_alike.ensures.within

pub returns-clause-different : goal.returns-clause-different
returns-clause-different c = IfOk-weaker c.group_alike.result _ _ (λ v h. tasks_stand (names_under c.args.texts.now c.args.names.now) v.items h) (returns-clause-groups c)
