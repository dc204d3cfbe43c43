use Rattle.std.proofs.Common.{◌≡◌, ℕ, All, map, take}
use Rattle.grace_quality.specs.Graces.{IsLeastGrace}
use Rattle.grace_quality.specs.declared.near.NearRelation.{NearRelation}
use Rattle.inspect_run.specs.inner.Graces.{relation_told}
use Rattle.inspect_run.proofs.near_rows.list_each.Given as goal

-- those of the relations so far
abbrev pub invariant-near : goal.invariant-near
invariant-near l = record {
  relations : map relation_told l.told.items ≡ take l.index l.near;
  graces : All (λ (t : NearRelation × ℕ). IsLeastGrace t.0.gap t.1) l.told.items;
}
