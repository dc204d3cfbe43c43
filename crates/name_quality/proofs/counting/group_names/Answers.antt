use Rattle.std.proofs.Common.{◌∙◌}
use Rattle.std.proofs.lemmas.Result.{IfOk-weaker}
use Rattle.name_quality.proofs.GatherLemmas.{names_grouped}
use Rattle.name_quality.proofs.PatternLemmas.{names_stand}
use Rattle.name_quality.specs.Names.{names_under}
use Rattle.name_quality.proofs.counting.group_names.Goals as goal

pub returns-clause-groups : goal.returns-clause-groups
returns-clause-groups c =
    IfOk-weaker c.group_alike.result _ _ (λ v h. h ∙ names_grouped c.args.texts.now c.state_texts_differ.ensures.tasks c.state_texts_differ.ensures.names c.args.names.now c.requires) c.group_alike.ensures.groups

pub returns-clause-different : goal.returns-clause-different
returns-clause-different c = IfOk-weaker c.group_alike.result _ _ (λ v h. names_stand (names_under c.args.texts.now c.args.names.now) v.items h) (returns-clause-groups c)
