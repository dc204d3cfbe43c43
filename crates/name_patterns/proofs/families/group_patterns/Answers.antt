use Rattle.std.proofs.Common.{◌≡◌, ◌<◌, ◌∙◌, ℕ, List, All, Bor, ap, length, map, refl, subst, sym}
use Rattle.std.specs.Prelude.{⊤}
use Rattle.std.specs.Str.{bytes_eq}
use Rattle.std.proofs.lemmas.List.{length-map}
use Rattle.std.proofs.lemmas.Result.{IfOk-weaker}
use Rattle.alike_groups.specs.Groups.{groups_of}
use Rattle.alike_groups.specs.declared.group.Group.{Group}
use Rattle.alike_groups.proofs.LawLemmas.{groups_under}
use Rattle.name_patterns.specs.inner.Lists.{bytes_in}
use Rattle.name_patterns.proofs.families.group_patterns.Goals as goal

pub returns-clause-groups : goal.returns-clause-groups
returns-clause-groups c =
    let now : Bor (List ℕ) → List ℕ = λ b. b.now in
    IfOk-weaker c.group_alike.result _ _ (λ v h. h ∙ groups_under _ bytes_eq now (λ b. ⊤) (λ x y p q. refl) c.deref.result.now (λ k d lt. tt)
    ∙ ap (groups_of bytes_eq) (ap (map now) c.deref.ensures.value ∙ c.in_ok-lent.ensures)) c.group_alike.ensures.groups

pub returns-clause-within : goal.returns-clause-within
returns-clause-within c =
    let now : Bor (List ℕ) → List ℕ = λ b. b.now in
    let long : length c.deref.result.now ≡ length c.args.patterns.now = sym (length-map c.deref.result.now now) ∙ ap length (ap (map now) c.deref.ensures.value ∙ c.in_ok-lent.ensures) ∙ length-map c.args.patterns.now bytes_in in
    IfOk-weaker c.group_alike.result _ _ (λ v h. subst (λ n. All (λ (g : Group). g.first < n) v.items) long h) c.group_alike.ensures.within
