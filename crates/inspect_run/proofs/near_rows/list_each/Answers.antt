use Rattle.std.proofs.Common.{◌∙◌, ◌++◌, ◌∷◌, [], ℕ, All, List, ap, map, subst, sym, take}
use Rattle.std.proofs.lemmas.List.{map-append, take_more}
use Rattle.std.proofs.lemmas.List.Elements.{All-append, All-cons, All-nil}
use Rattle.grace_quality.specs.Graces.{IsLeastGrace}
use Rattle.grace_quality.specs.declared.near.NearRelation.{NearRelation}
use Rattle.inspect_run.specs.inner.Graces.{relation_told}
use Rattle.inspect_run.proofs.near_rows.list_each.Goals as goal

pub near-preserved : goal.near-preserved
near-preserved c =
    let near = c.args.near.now in
    let told : List (NearRelation × ℕ) = c.near.told.items in
    let one : NearRelation × ℕ = c.with_grace.result in
    let P : NearRelation × ℕ → Type 0 = λ t. IsLeastGrace t.0.gap t.1 in
    record {
      relations =
          ap (map relation_told) c.in_ok-push.ensures.items
          ∙ map-append relation_told told (one ∷ [])
          ∙ ap (λ (l : List NearRelation). l ++ one.0 ∷ []) c.near.invariant.relations
          ∙ ap (λ (r : NearRelation). take c.near.index near ++ r ∷ []) c.with_grace.ensures.relation
          ∙ sym (take_more near c.near.index _ c.near-test.true);
      graces = subst (All P) (sym c.in_ok-push.ensures.items) (All-append P told (one ∷ []) c.near.invariant.graces (All-cons P one [] c.with_grace.ensures.grace (All-nil P)));
    }
