-- Groups of elements, and of what they stand for; the first elements of groups.
use Rattle.std.proofs.Common.{◌≡◌, ◌⊎◌, inl, inr, ℕ, ◌+◌, ◌<◌, ◌≤◌, List, [], ◌∷◌, Bool, true, false, not, cond, filter, length, get_or, map, All, ap, refl, sym, ◌∙◌, arith, true≢false}
use Rattle.std.specs.Prelude.{count_by}
use Rattle.std.specs.List.{position_or_len}
use Rattle.std.proofs.lemmas.Bool.{cases_lt}
use Rattle.std.proofs.lemmas.List.Elements.{All-head, All-map, All-tail}
use Rattle.std.proofs.lemmas.List.Folds.{map_fixed}
use Rattle.std.proofs.lemmas.List.Sums.{fails_before_first, passes_at_first, sum_by-cons}
use Rattle.std.proofs.lemmas.Simd.{map-map}
use Rattle.trace_types.specs.Firsts.{firsts_of}
use Rattle.trace_types.proofs.ShortLemmas.{firsts_all}
use Rattle.alike_groups.specs.Groups.{group_of, groups_of}
use Rattle.alike_groups.specs.declared.group.Group.{Group}

module _ {K V : Type 0} (same : K → K → Bool) (alike : V → V → Bool) (value : K → V) (P : K → Type 0) (agree : (x y : K) → P x → P y → same x y ≡ alike (value x) (value y)) where
  counted : (k : K) (ys : List K) → P k → All P ys → count_by (same k) ys ≡ count_by (alike (value k)) (map value ys)
  counted k [] p all = refl
  counted k (y ∷ ys) p all =
      sum_by-cons (λ z. cond (same k z) 1 0) y ys
      ∙ ap (λ b. cond b 1 0 + count_by (same k) ys) (agree k y p (All-head P y ys all))
      ∙ ap (λ n. cond (alike (value k) (value y)) 1 0 + n) (counted k ys p (All-tail P y ys all))
      ∙ sym (sum_by-cons (λ z. cond (alike (value k) z) 1 0) (value y) (map value ys))

  placed : (k : K) (ys : List K) → P k → All P ys → position_or_len (same k) ys ≡ position_or_len (alike (value k)) (map value ys)
  placed k [] p all = refl
  placed k (y ∷ ys) p all =
      ap (λ b. cond (not b) (1 + position_or_len (same k) ys) 0) (agree k y p (All-head P y ys all))
      ∙ ap (λ n. cond (not (alike (value k) (value y))) (1 + n) 0) (placed k ys p (All-tail P y ys all))

  filtered : (y : K) (zs : List K) → P y → All P zs → filter (λ z. not (alike (value y) z)) (map value zs) ≡ map value (filter (λ z. not (same y z)) zs)
  filtered y [] p all = refl
  filtered y (z ∷ zs) p all = by (same y z) refl (filtered y zs p (All-tail P z zs all))
    where
      by : (b : Bool) → same y z ≡ b → filter (λ w. not (alike (value y) w)) (map value zs) ≡ map value (filter (λ w. not (same y w)) zs)
          → filter (λ w. not (alike (value y) w)) (map value (z ∷ zs)) ≡ map value (filter (λ w. not (same y w)) (z ∷ zs))
      by true e rest = let f : alike (value y) (value z) ≡ true = sym (agree y z p (All-head P z zs all)) ∙ e in rw (f, e) rest
      by false e rest = let f : alike (value y) (value z) ≡ false = sym (agree y z p (All-head P z zs all)) ∙ e in rw (f, e) (ap (λ (l : List V). value z ∷ l) rest)

  firsts_under : (ys : List K) → All P ys → firsts_of alike (map value ys) ≡ map value (firsts_of same ys)
  firsts_under [] all = refl
  firsts_under (y ∷ ys) all =
      let rest = All-tail P y ys all in
      ap (λ (l : List V). value y ∷ filter (λ z. not (alike (value y) z)) l) (firsts_under ys rest)
      ∙ ap (λ (l : List V). value y ∷ l) (filtered y (firsts_of same ys) (All-head P y ys all) (firsts_all P same ys rest))

  mapped : (g : K → Group) (h : V → Group) → ((k : K) → P k → g k ≡ h (value k)) → (ks : List K) → All P ks → map g ks ≡ map h (map value ks)
  mapped g h is [] all = refl
  mapped g h is (k ∷ ks) all =
      ap (λ (x : Group). x ∷ map g ks) (is k (All-head P k ks all))
      ∙ ap (λ (l : List Group). h (value k) ∷ l) (mapped g h is ks (All-tail P k ks all))

  pub groups_under : (xs : List K) → All P xs → groups_of same xs ≡ groups_of alike (map value xs)
  groups_under xs all =
      mapped (group_of same xs) (group_of alike (map value xs)) (λ k p. λ i. record { first = placed k xs p all i; count = counted k xs p all i }) (firsts_of same xs) (firsts_all P same xs all)
      ∙ ap (map (group_of alike (map value xs))) (sym (firsts_under xs all))

-- the first element of a group is in the list
module _ {K : Type 0} (same : K → K → Bool) (own : (x : K) → same x x ≡ true) (xs : List K) where
  placed_within : (k : ℕ) (e : K) → k < length xs → position_or_len (same (get_or xs k e)) xs < length xs
  placed_within k e lt = by (cases_lt k (position_or_len (same (get_or xs k e)) xs))
    where
      by : (k < position_or_len (same (get_or xs k e)) xs) ⊎ (position_or_len (same (get_or xs k e)) xs ≤ k) → position_or_len (same (get_or xs k e)) xs < length xs
      by (inl before) = absurd (true≢false (sym (own (get_or xs k e)) ∙ fails_before_first (same (get_or xs k e)) xs k e before))
      by (inr there) = omega (arith, there, lt)

  pub groups_within : All (λ (g : Group). g.first < length xs) (groups_of same xs)
  groups_within = All-map (λ (g : Group). g.first < length xs) (group_of same xs) (firsts_of same xs) (firsts_all (λ k. position_or_len (same k) xs < length xs) same xs placed_within)

-- where the test tells equality, the first elements are the different ones, in the order of first sight
module _ {K : Type 0} (same : K → K → Bool) (means : (x y : K) → same x y ≡ true → x ≡ y) (own : (x : K) → same x x ≡ true) (xs : List K) (d : K) where
  stands : (k : ℕ) (e : K) → k < length xs → get_or xs (position_or_len (same (get_or xs k e)) xs) d ≡ get_or xs k e
  stands k e lt = by (cases_lt k place)
    where
      x : K
      x = get_or xs k e

      place : ℕ
      place = position_or_len (same x) xs

      by : (k < place) ⊎ (place ≤ k) → get_or xs place d ≡ x
      by (inl before) = absurd (true≢false (sym (own x) ∙ fails_before_first (same x) xs k e before))
      by (inr there) = sym (means x (get_or xs place d) (passes_at_first (same x) xs d (omega (arith, there, lt))))

  pub firsts_stand : map (λ (g : Group). get_or xs g.first d) (groups_of same xs) ≡ firsts_of same xs
  firsts_stand =
      map-map (λ (g : Group). get_or xs g.first d) (group_of same xs) (firsts_of same xs)
      ∙ map_fixed (λ k. get_or xs (position_or_len (same k) xs) d) (firsts_of same xs) (firsts_all (λ k. get_or xs (position_or_len (same k) xs) d ≡ k) same xs stands)

  -- the group of an element has as many as are equal to its first
  pub counts_stand : All (λ (g : Group). g.count ≡ count_by (same (get_or xs g.first d)) xs) (groups_of same xs)
  counts_stand =
      All-map (λ (g : Group). g.count ≡ count_by (same (get_or xs g.first d)) xs) (group_of same xs) (firsts_of same xs)
      (firsts_all (λ k. count_by (same k) xs ≡ count_by (same (get_or xs (position_or_len (same k) xs) d)) xs) same xs (λ k e lt. ap (λ (x : K). count_by (same x) xs) (sym (stands k e lt))))
