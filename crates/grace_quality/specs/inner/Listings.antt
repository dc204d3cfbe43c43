-- What one name nearly keeps.
use Rattle.std.specs.Prelude.{ℕ, List, flat_map}
use Rattle.std.specs.List.{range_with_len, sum_by}
use Rattle.evidence_rules.specs.declared.between.Between.{Between}
use Rattle.grace_quality.specs.Near.{met_of, near_of}
use Rattle.grace_quality.specs.declared.near.NearRelation.{NearRelation}

-- with each name below a number
abbrev pub rows_of_name : (ℕ → ℕ → Between) → ℕ → ℕ → List NearRelation
rows_of_name figures names a =
    flat_map (λ b. near_of a b (figures a b)) (range_with_len 0 names)

-- how many relations it has with each
abbrev pub met_with : (ℕ → ℕ → Between) → ℕ → ℕ → ℕ
met_with figures names a = sum_by (λ b. met_of a b (figures a b)) (range_with_len 0 names)
