-- How many different elements a list has whose elements stand in another.
use Rattle.std.proofs.Common.{◌≡◌, ◌≤◌, not, List, [], ◌∷◌, Bool, true, false, length, refl, ap, subst}
use Rattle.std.specs.Prelude.{All, Contains, filter}
use Rattle.std.specs.Bool.{Decides}
use Rattle.std.specs.Cmp.{IsEquivalence, both_ways}
use Rattle.std.specs.List.{AllByRecursion, IsDistinct}
use Rattle.std.proofs.lemmas.List.Elements.{All-contains}
use Rattle.std.proofs.lemmas.Map.Made.{is_member-Decides, length-le_from_is_member}
use Rattle.trace_types.specs.Firsts.{firsts_of}
use Rattle.trace_types.proofs.ShortLemmas.{firsts_all}

module _ {X : Type 0} (same : X → X → Bool) (exact : (x y : X) → Decides (same x y) (x ≡ y)) where
  equal : IsEquivalence same
  equal = record {
    refl = λ x. (exact x x).1 refl;
    symm = λ x y. both_ways (same x y) (same y x)
        (λ e. subst (λ (z : X). same z x ≡ true) ((exact x y).0 e) ((exact x x).1 refl))
        (λ e. subst (λ (z : X). same z y ≡ true) ((exact y x).0 e) ((exact y y).1 refl));
    congr = λ x y z e. ap (λ (w : X). same w z) ((exact x y).0 e);
  }

  apart_all : (P : X → Type 0) (p : X → Bool) (ys : List X) → AllByRecursion P ys → AllByRecursion P (filter p ys)
  apart_all P p [] h = tt
  apart_all P p (y ∷ ys) h = by (p y) refl (apart_all P p ys h.1)
    where
      by : (b : Bool) → p y ≡ b → AllByRecursion P (filter p ys) → AllByRecursion P (filter p (y ∷ ys))
      by true e rest = rw e (h.0, rest)
      by false e rest = rw e rest

  apart_first : (x : X) (ys : List X) → AllByRecursion (λ y. same x y ≡ false) (filter (λ y. not (same x y)) ys)
  apart_first x [] = tt
  apart_first x (y ∷ ys) = by (same x y) refl (apart_first x ys)
    where
      by : (b : Bool) → same x y ≡ b → AllByRecursion (λ z. same x z ≡ false) (filter (λ z. not (same x z)) ys) → AllByRecursion (λ z. same x z ≡ false) (filter (λ z. not (same x z)) (y ∷ ys))
      by true e rest = rw e rest
      by false e rest = rw e (e, rest)

  distinct_filter : (p : X → Bool) (ys : List X) → IsDistinct same ys → IsDistinct same (filter p ys)
  unfolding IsDistinct
  distinct_filter p [] h = tt
  distinct_filter p (y ∷ ys) h = by (p y) refl (distinct_filter p ys h.1)
    where
      by : (b : Bool) → p y ≡ b → IsDistinct same (filter p ys) → IsDistinct same (filter p (y ∷ ys))
      by true e rest = rw e (apart_all (λ z. same y z ≡ false) p ys h.0, rest)
      by false e rest = rw e rest

  distinct : (xs : List X) → IsDistinct same (firsts_of same xs)
  unfolding IsDistinct
  distinct [] = tt
  distinct (x ∷ xs) = (apart_first x (firsts_of same xs), distinct_filter (λ y. not (same x y)) (firsts_of same xs) (distinct xs))

  -- there are no more than in the other list
  pub few_firsts : (xs ys : List X) → All (Contains ys) xs → length (firsts_of same xs) ≤ length ys
  few_firsts xs ys h =
      length-le_from_is_member equal (firsts_of same xs) ys (distinct xs)
      (λ q there.
      (is_member-Decides exact ys q).1 (All-contains (Contains ys) (firsts_of same xs) q (firsts_all (Contains ys) same xs h) ((is_member-Decides exact (firsts_of same xs) q).0 there)))
