-- Lists that grow by what is new.
use Rattle.std.proofs.Common.{◌≡◌, ◌≢◌, ℕ, ◌+◌, ◌<◌, ◌≤◌, List, [], ◌∷◌, ◌++◌, length, get_or, take, map, sym, ap, ◌∙◌, subst, inl, inr, ⊎_elim, arith}
use Rattle.std.specs.List.{Contains, flat_map}
use Rattle.std.proofs.lemmas.List.{length-append, length_push, map_more, take_all}
use Rattle.std.proofs.lemmas.List.Elements.{Contains-append_left, Contains-append_right, Contains-append_cases, Contains-get_or}
use Rattle.std.proofs.lemmas.List.Quantifiers.{all_pairs_push}
use Rattle.trace_types.proofs.ListingLemmas.{Contains-nil}
use Rattle.trace_types.proofs.ElementLemmas.{Contains-one, map_flat_map-more}
use Rattle.model_checks.specs.inner.Growing.{AddsDistinct}

pub AddsDistinct-none : {X : Type 0} (xs : List X) → AddsDistinct [] xs xs
AddsDistinct-none xs = record {
  differ = λ h. h;
  same = λ x. ((λ c. inl c), (λ e. ⊎_elim (λ (c : Contains xs x). c) (λ (c : Contains [] x). absurd (Contains-nil x c)) e));
  few = omega arith;
}

pub AddsDistinct-then : {X : Type 0} (front back xs ys zs : List X) → AddsDistinct front xs ys → AddsDistinct back ys zs → AddsDistinct (front ++ back) xs zs
AddsDistinct-then front back xs ys zs p q = record {
  differ = λ h. q.differ (p.differ h);
  same = λ x. (
    (λ c. ⊎_elim
        (λ (d : Contains ys x). ⊎_elim (λ (e : Contains xs x). inl e) (λ (e : Contains front x). inr (Contains-append_left front back x e)) ((p.same x).0 d))
        (λ (d : Contains back x). inr (Contains-append_right front back x d))
        ((q.same x).0 c)),
    (λ e. ⊎_elim
        (λ (c : Contains xs x). (q.same x).1 (inl ((p.same x).1 (inl c))))
        (λ (c : Contains (front ++ back) x). ⊎_elim (λ (d : Contains front x). (q.same x).1 (inl ((p.same x).1 (inr d)))) (λ (d : Contains back x). (q.same x).1 (inr d)) (Contains-append_cases front back x c))
        e),
  );
  few = let m = p.few in let n = q.few in omega (arith, length-append front back);
}

-- x is there already
pub AddsDistinct-known : {X : Type 0} (xs : List X) (x : X) → Contains xs x → AddsDistinct (x ∷ []) xs xs
AddsDistinct-known xs x known = record {
  differ = λ h. h;
  same = λ y. ((λ c. inl c), (λ e. ⊎_elim (λ (c : Contains xs y). c) (λ (c : Contains (x ∷ []) y). subst (Contains xs) (Contains-one x y c) known) e));
  few = omega arith;
}

pub AddsDistinct-new : {X : Type 0} (xs : List X) (x : X) → (Contains xs x → ⊥) → AddsDistinct (x ∷ []) xs (xs ++ x ∷ [])
AddsDistinct-new {X} xs x fresh = record {
  differ = λ h. all_pairs_push (λ (y z : X). y ≢ z) xs x h (λ k d lt e. fresh (subst (Contains xs) e (Contains-get_or xs k d lt)));
  same = λ y. ((λ c. Contains-append_cases xs (x ∷ []) y c), (λ e. ⊎_elim (λ (c : Contains xs y). Contains-append_left xs (x ∷ []) y c) (λ (c : Contains (x ∷ []) y). Contains-append_right xs (x ∷ []) y c) e));
  few = omega (arith, length_push xs x);
}

-- the values of one more element, and of the elements of one more list
pub AddsDistinct-more : {X Y : Type 0} (f : X → Y) (xs : List X) (i : ℕ) (x : X) → i < length xs → x ≡ get_or xs i x → (old now new : List Y) → AddsDistinct (map f (take i xs)) old now → AddsDistinct (f x ∷ []) now new → AddsDistinct (map f (take (i + 1) xs)) old new
AddsDistinct-more {X} {Y} f xs i x lt at old now new p q =
    let e = map_more f xs i x lt ∙ ap (λ (v : X). map f (take i xs) ++ f v ∷ []) (sym at) in
    subst (λ (l : List Y). AddsDistinct l old new) (sym e) (AddsDistinct-then (map f (take i xs)) (f x ∷ []) old now new p q)

pub AddsDistinct-more_lists : {X Y Z : Type 0} (f : X → List Y) (g : Y → Z) (xs : List X) (i : ℕ) (x : X) → i < length xs → x ≡ get_or xs i x → (old now new : List Z) → AddsDistinct (map g (flat_map f (take i xs))) old now → AddsDistinct (map g (f x)) now new → AddsDistinct (map g (flat_map f (take (i + 1) xs))) old new
AddsDistinct-more_lists {X} {Y} {Z} f g xs i x lt at old now new p q =
    subst (λ (l : List Z). AddsDistinct l old new) (sym (map_flat_map-more f g xs i x lt at)) (AddsDistinct-then (map g (flat_map f (take i xs))) (map g (f x)) old now new p q)

-- all of them
pub AddsDistinct-all : {X Y : Type 0} (f : X → Y) (xs : List X) (n : ℕ) → length xs ≤ n → (old new : List Y) → AddsDistinct (map f (take n xs)) old new → AddsDistinct (map f xs) old new
AddsDistinct-all f xs n all old new p = subst (λ l. AddsDistinct (map f l) old new) (take_all n xs all) p
