-- Relations of two names that few traces refute, and all of these by little. Names are given by their
-- numbers, gaps are in nanoseconds. This is the project's own.
use Rattle.std.specs.Prelude.{ℕ, ◌*◌, ◌==◌, ◌&&◌, ℤ, pos, neg_ℤ, int_lt, nat_lt, not, Bool}
use Rattle.std.specs.Prelude.{if◌then◌else◌, List, [], ◌∷◌, ◌++◌, flat_map}
use Rattle.std.specs.List.{range_with_len, sum_by}
use Rattle.evidence_rules.specs.declared.between.Between.{Between}
use Rattle.grace_quality.specs.declared.near.NearKind.TheVariants.{Order, Exclusion}
use Rattle.grace_quality.specs.declared.near.NearRelation.{NearRelation}

-- some traces refute, and fewer than one in a hundred
abbrev pub are_fewer : ℕ → ℕ → Bool
are_fewer refuted traces = nat_lt 0 refuted && nat_lt (100 * refuted) traces

-- the gap is less than a millisecond below none
abbrev pub is_slight : ℤ → Bool
is_slight gap = int_lt (neg_ℤ (pos 1000000)) gap

-- few traces refute that the first happens before the second, and all of these by little
abbrev pub is_near_order : ℕ → ℕ → Between → Bool
is_near_order a b f = not (a == b) && (are_fewer f.early f.traces && is_slight f.least)

-- few traces refute that the two are mutually exclusive, and all of these by little
abbrev pub is_near_exclusion : ℕ → ℕ → Between → Bool
is_near_exclusion a b f = nat_lt a b && (are_fewer f.both f.traces && is_slight f.nearest)

-- what two names with these figures nearly keep
abbrev pub order_row : ℕ → ℕ → Between → NearRelation
order_row a b f = record {
  kind = Order;
  first = a;
  second = b;
  refuted = f.early;
  traces = f.traces;
  trace = f.first_early;
  gap = f.least;
}

abbrev pub exclusion_row : ℕ → ℕ → Between → NearRelation
exclusion_row a b f = record {
  kind = Exclusion;
  first = a;
  second = b;
  refuted = f.both;
  traces = f.traces;
  trace = f.first_both;
  gap = f.nearest;
}

abbrev pub near_of : ℕ → ℕ → Between → List NearRelation
near_of a b f = (if is_near_order a b f then order_row a b f ∷ [] else [])
    ++ (if is_near_exclusion a b f then exclusion_row a b f ∷ [] else [])

-- what each two names below a number nearly keep, by the first and then by the second
abbrev pub near_rows : (ℕ → ℕ → Between) → ℕ → List NearRelation
near_rows figures names =
    flat_map (λ a. flat_map (λ b. near_of a b (figures a b)) (range_with_len 0 names))
    (range_with_len 0 names)

-- how many relations of two names there are, where some trace has both: an order of two different
-- names, and an exclusion where the first has the lower number
abbrev pub count_told : ℕ → ℕ → ℕ
count_told a b = if a == b then 0 else (if nat_lt a b then 2 else 1)

abbrev pub met_of : ℕ → ℕ → Between → ℕ
met_of a b f = if f.traces == 0 then 0 else count_told a b

-- those of each two names below a number
abbrev pub count_met : (ℕ → ℕ → Between) → ℕ → ℕ
count_met figures names =
    sum_by (λ a. sum_by (λ b. met_of a b (figures a b)) (range_with_len 0 names))
    (range_with_len 0 names)
