-- What stands in lists that are made of others, and how long lists are.
use Rattle.std.proofs.Common.{◌≡◌, ℕ, zero, suc, ◌*◌, ◌<◌, ◌≤◌, not, cond, List, [], ◌∷◌, Bool, true, false, length, map, refl, sym, ap, ◌∙◌, subst, Ordering, arith, length-append}
use Rattle.std.specs.declared.cmp.Ordering.TheVariants.{Less}
use Rattle.std.specs.Prelude.{AllPairs, Contains, filter, flat_map}
use Rattle.std.specs.Cmp.{IsTotalOrder}
use Rattle.std.specs.Ordering.{eq_by_cmp, is_eq}
use Rattle.std.proofs.lemmas.Cmp.{eq_by_cmp_equiv}
use Rattle.std.proofs.lemmas.List.{length-map}
use Rattle.std.proofs.lemmas.List.Folds.{Any-from_list_any, list_any-from_Any}
use Rattle.std.proofs.lemmas.Map.Keys.{IsDistinct-from_apart}
use Rattle.std.proofs.lemmas.Map.Made.{length-le_from_is_member}
use Rattle.trace_types.specs.Firsts.{firsts_of}
use Rattle.trace_types.proofs.ElementLemmas.{contains_map, Contains-flat_map}

-- ---- what stands in a list

contains_later : {X : Type 0} (keeps : Bool) (y : X) (xs : List X) (x : X) → Contains xs x → Contains (cond keeps (y ∷ xs) xs) x
contains_later true y xs x c = let within : c.0 < length xs = c.1 in (suc c.0, omega arith, c.2)
contains_later false y xs x c = c

contains_filter : {X : Type 0} (p : X → Bool) (xs : List X) (x : X) → p x ≡ true → Contains xs x → Contains (filter p xs) x
contains_filter p [] x passes (k, within, is) = absurd (omega arith)
contains_filter p (y ∷ xs) x passes (zero, within, is) = subst (λ (b : Bool). Contains (cond b (y ∷ filter p xs) (filter p xs)) x) (sym (ap p is ∙ passes)) (zero, omega arith, is)
contains_filter p (y ∷ xs) x passes (suc k, within, is) = contains_later (p y) y (filter p xs) x (contains_filter p xs x passes (k, omega arith, is))

-- what stands in a list is in the order of first sight too
module _ {X : Type 0} (same : X → X → Bool) (exact : (x y : X) → same x y ≡ true → x ≡ y) where
  pub contains_firsts : (xs : List X) (x : X) → Contains xs x → Contains (firsts_of same xs) x
  contains_firsts [] x (k, within, is) = absurd (omega arith)
  contains_firsts (y ∷ xs) x (zero, within, is) = (zero, omega arith, is)
  contains_firsts (y ∷ xs) x (suc k, within, is) = by (same y x) refl (contains_firsts xs x (k, omega arith, is))
    where
      by : (b : Bool) → same y x ≡ b → Contains (firsts_of same xs) x → Contains (firsts_of same (y ∷ xs)) x
      by true e c = (zero, omega arith, exact y x e)
      by false e c = contains_later true y (filter (λ z. not (same y z)) (firsts_of same xs)) x (contains_filter (λ z. not (same y z)) (firsts_of same xs) x (ap not e) c)

-- all pairs of an element of one list and one of another
abbrev pub pairs_of : {X Y : Type 0} → List X → List Y → List (X × Y)
pairs_of xs ys = flat_map (λ x. map (λ y. (x, y)) ys) xs

pub contains_pair : {X Y : Type 0} (xs : List X) (ys : List Y) (x : X) (y : Y) → Contains xs x → Contains ys y → Contains (pairs_of xs ys) (x, y)
contains_pair {X} {Y} xs ys x y c d = Contains-flat_map (λ (a : X). map (λ (b : Y). (a, b)) ys) xs x (x, y) c (contains_map (λ (b : Y). (x, b)) ys y d)

-- ---- how long a list is

pub few_pairs : {X Y : Type 0} (xs : List X) (ys : List Y) (most : ℕ) → length ys ≤ most → length (pairs_of xs ys) ≤ length xs * most
few_pairs [] ys most few = omega arith
few_pairs {X} {Y} (x ∷ xs) ys most few = omega (arith, few_pairs xs ys most few, length-append (map (λ (y : Y). (x, y)) ys) (pairs_of xs ys), length-map {B = X × Y} ys (λ (y : Y). (x, y)))

-- a rising list of elements of another is no longer
pub few_rising : {X : Type 0} (cmp : X → X → Ordering) → IsTotalOrder cmp → (xs ys : List X) → AllPairs (λ x y. cmp x y ≡ Less) xs → ((x : X) → Contains xs x → Contains ys x) → length xs ≤ length ys
few_rising cmp total xs ys rising each =
    length-le_from_is_member (eq_by_cmp_equiv total) xs ys
    (IsDistinct-from_apart (eq_by_cmp cmp) xs (λ i j d before within. ap is_eq (rising i j d before within)))
    (λ x h.
    let some = Any-from_list_any (eq_by_cmp cmp x) xs h in
    let there = each some.1 (some.0, some.2, some.3) in
    list_any-from_Any (eq_by_cmp cmp x) ys (there.0, some.1, there.1, there.2, some.4))
