use Rattle.std.proofs.Common.{◌<◌, ◌≡◌, ◌∙◌, All, ap, length, map, subst, sym}
use Rattle.std.proofs.lemmas.List.{length-map}
use Rattle.std.proofs.lemmas.Result.{IfOk-weaker}
use Rattle.alike_groups.specs.declared.group.Group.{Group}
use Rattle.name_patterns.specs.Families.{AreFamilies}
use Rattle.name_patterns.specs.inner.Lists.{bytes_in}
use Rattle.name_quality.specs.inner.Labels.{name_pattern_at}
use Rattle.name_quality.proofs.PatternLemmas.{name_patterns}
use Rattle.name_quality.proofs.labels.find_name_families.Goals as goal

pub returns-clause-families : goal.returns-clause-families
returns-clause-families c =
    let texts = c.args.texts.now in
    let names = c.args.names.now in
    let groups = c.args.groups.now in
    IfOk-weaker c.find_families.result _ _ (λ v h. subst (λ ps. AreFamilies ps v.items)
    (ap (map bytes_in) c.deref.ensures.value ∙ c.in_ok-patterns.ensures ∙ name_patterns texts names groups c.requires.within c.requires.groups) h) c.find_families.ensures.families

pub returns-clause-within : goal.returns-clause-within
returns-clause-within c =
    let groups = c.args.groups.now in
    let long : length c.deref.result.now ≡ length groups = sym (length-map c.deref.result.now bytes_in) ∙ ap length (ap (map bytes_in) c.deref.ensures.value ∙ c.in_ok-patterns.ensures)
    ∙ length-map groups (name_pattern_at c.args.texts.now c.args.names.now) in
    IfOk-weaker c.find_families.result _ _ (λ v h. subst (λ n. All (λ (g : Group). g.first < n) v.items) long h) c.find_families.ensures.within
