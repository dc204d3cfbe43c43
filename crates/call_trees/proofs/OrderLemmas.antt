-- Keys with their indexes, in order.
use Rattle.std.proofs.Common.{◌≡◌, ℕ, zero, suc, ◌+◌, ◌<◌, ◌≤◌, List, [], ◌∷◌, ◌++◌, All, false, None, Option, Some, length, get_or, map, slice_get, refl, sym, ap, ◌∙◌, subst, arith}
use Rattle.std.specs.Prelude.{IsPermutation, IsSorted}
use Rattle.std.specs.List.{range_with_len}
use Rattle.std.specs.Ordering.{is_lt, nat_cmp, ordering_then}
use Rattle.std.specs.declared.cmp.Ordering.{Ordering}
use Rattle.std.specs.declared.cmp.Ordering.TheVariants.{Less, Equal, Greater}
use Rattle.std.proofs.lemmas.List.{get_or-map, length-map, map_push}
use Rattle.std.proofs.lemmas.List.Elements.{All-from_get_or, All-get_or, All-push}
use Rattle.std.proofs.lemmas.List.FromFn.{get_or-range_with_len, length-range_with_len}
use Rattle.std.specs.Option.{option_map}
use Rattle.std.proofs.lemmas.List.Sorted.{All-permutation, IsPermutation-map}
use Rattle.std.proofs.lemmas.Option.{slice_get-get_or}
use Rattle.call_trees.specs.Orders.{AreInOrder}
use Rattle.call_trees.specs.inner.IndexedKeys.{AreIndexed, indexes_of}

pub range_more : (a n : ℕ) → range_with_len a (n + 1) ≡ range_with_len a n ++ (a + n) ∷ []
range_more a zero = ap (λ k. k ∷ []) (let e : a ≡ a + 0 = omega arith in e)
range_more a (suc n) = ap (λ k. range_with_len a k) (let e : suc n + 1 ≡ suc (n + 1) = omega arith in e) ∙ ap (λ ks. a ∷ ks) (range_more (a + 1) n) ∙ ap (λ k. a ∷ (range_with_len (a + 1) n ++ k ∷ [])) (let e : a + 1 + n ≡ a + suc n = omega arith in e)

first_part : (o p : Ordering) → is_lt (ordering_then o p) ≡ false → is_lt o ≡ false
first_part Less p h = h
first_part Equal p h = refl
first_part Greater p h = refl

some_inj : {X : Type 0} {x y : X} → Some x ≡ Some y → x ≡ y
some_inj h = cc

module _ {K : Type 0} where
  pub indexed_more : (keys : List K) (pairs new : List (K × ℕ)) (k : K) (i : ℕ) → i < length keys → k ≡ get_or keys i k → new ≡ pairs ++ (k, i) ∷ [] → AreIndexed keys pairs → AreIndexed keys new
  indexed_more keys pairs new k i lt is step h =
      subst (AreIndexed keys) (sym step) (All-push (λ (p : K × ℕ). slice_get keys p.1 ≡ Some p.0) pairs (k, i) h (slice_get-get_or keys i k lt ∙ ap (λ (x : K). Some x) (sym is)))

  pub indexes_more : (pairs new : List (K × ℕ)) (k : K) (i : ℕ) → new ≡ pairs ++ (k, i) ∷ [] → indexes_of pairs ≡ range_with_len 0 i → indexes_of new ≡ range_with_len 0 (i + 1)
  indexes_more pairs new k i step h =
      ap indexes_of step ∙ map_push (λ (p : K × ℕ). p.1) pairs (k, i) ∙ ap (λ (ns : List ℕ). ns ++ i ∷ []) h
      ∙ ap (λ n. range_with_len 0 i ++ n ∷ []) (let e : i ≡ 0 + i = omega arith in e) ∙ sym (range_more 0 i)

  module _ (cmp : K → K → Ordering) (keys : List K) (pairs sorted : List (K × ℕ)) (indexed : AreIndexed keys pairs) (indexes : indexes_of pairs ≡ range_with_len 0 (length keys)) (moved : IsPermutation pairs sorted) (rise : IsSorted (λ (p q : K × ℕ). ordering_then (cmp p.0 q.0) (nat_cmp p.1 q.1)) sorted) where
    at : AreIndexed keys sorted
    at = All-permutation (λ (p : K × ℕ). slice_get keys p.1 ≡ Some p.0) pairs sorted moved indexed

    key_at : (i : ℕ) (d : K × ℕ) (a : K) → i < length sorted → slice_get keys (get_or (indexes_of sorted) i 0) ≡ Some a → a ≡ (get_or sorted i d).0
    key_at i d a lt there = some_inj (sym there ∙ ap (slice_get keys) (get_or-map (λ (p : K × ℕ). p.1) sorted i d 0 lt) ∙ All-get_or (λ (p : K × ℕ). slice_get keys p.1 ≡ Some p.0) sorted i d lt at)

    pub are_in_order : AreInOrder cmp keys (indexes_of sorted)
    are_in_order = record {
      all = subst (λ (ns : List ℕ). IsPermutation ns (indexes_of sorted)) indexes (IsPermutation-map (λ (p : K × ℕ). p.1) pairs sorted moved);
      rise = λ i a b lt one two.
          let few : i + 1 < length sorted = omega (arith, lt, length-map sorted (λ (p : K × ℕ). p.1)) in
          let low : i < length sorted = omega arith in
          ap (λ (x : K). is_lt (cmp x a)) (key_at (i + 1) (a, 0) b few two) ∙ ap (λ (x : K). is_lt (cmp (get_or sorted (i + 1) (a, 0)).0 x)) (key_at i (a, 0) a low one)
          ∙ first_part (cmp (get_or sorted (i + 1) (a, 0)).0 (get_or sorted i (a, 0)).0) (nat_cmp (get_or sorted (i + 1) (a, 0)).1 (get_or sorted i (a, 0)).1) (rise i (a, 0) (omega arith) few);
    }

-- keys that are seen by f rise where their views do
pub order-map : {K L : Type 0} (f : K → L) (cmp : L → L → Ordering) (keys : List K) (order : List ℕ) → AreInOrder (λ a b. cmp (f a) (f b)) keys order → AreInOrder cmp (map f keys) order
order-map {K} {L} f cmp keys order h = record {
  all = subst (λ n. IsPermutation (range_with_len 0 n) order) (sym (length-map keys f)) h.all;
  rise = λ i x y lt one two. by i x y lt (viewed (get_or order i 0) x one) (viewed (get_or order (i + 1) 0) y two);
}
  where
    from : (o : Option K) (x : L) → option_map f o ≡ Some x → (k : K) × (o ≡ Some k) × (f k ≡ x)
    from None x e = cc
    from (Some k) x e = (k, refl, some_inj e)

    get_map : (ks : List K) (n : ℕ) → slice_get (map f ks) n ≡ option_map f (slice_get ks n)
    get_map [] n = refl
    get_map (k ∷ ks) zero = refl
    get_map (k ∷ ks) (suc n) = get_map ks n

    viewed : (n : ℕ) (x : L) → slice_get (map f keys) n ≡ Some x → (k : K) × (slice_get keys n ≡ Some k) × (f k ≡ x)
    viewed n x e = from (slice_get keys n) x (sym (get_map keys n) ∙ e)

    by : (i : ℕ) (x y : L) → i + 1 < length order → (k : K) × (slice_get keys (get_or order i 0) ≡ Some k) × (f k ≡ x) → (l : K) × (slice_get keys (get_or order (i + 1) 0) ≡ Some l) × (f l ≡ y) → is_lt (cmp y x) ≡ false
    by i x y lt a b = sym (ap (λ z. is_lt (cmp z (f a.0))) b.2 ∙ ap (λ z. is_lt (cmp y z)) a.2) ∙ h.rise i a.0 b.0 lt a.1 b.1

pub order_within : {K : Type 0} (cmp : K → K → Ordering) (keys : List K) (order : List ℕ) (n : ℕ) → n ≡ length keys → AreInOrder cmp keys order → All (λ j. j < n) order
order_within cmp keys order n is h = All-permutation (λ j. j < n) (range_with_len 0 (length keys)) order h.all (below_range n (length keys) (omega (arith, is)))
  where
    below_range : (m k : ℕ) → k ≤ m → All (λ j. j < m) (range_with_len 0 k)
    below_range m k le = All-from_get_or (λ j. j < m) (range_with_len 0 k) 0 (λ i lt. omega (arith, lt, le, length-range_with_len 0 k, get_or-range_with_len 0 k i 0 (omega (arith, lt, length-range_with_len 0 k))))
