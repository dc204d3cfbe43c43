-- Lists of exactly some elements, each once, in rising order.
use Rattle.std.proofs.Common.{◌↔◌, List, Ordering, [], arith, ◌≡◌, ◌∷◌, ◌⊎◌, ◌++◌, inl, inr, ⊎_elim}
use Rattle.std.specs.declared.cmp.Ordering.TheVariants.{Less}
use Rattle.std.specs.List.{Contains}
use Rattle.std.proofs.lemmas.List.Elements.{Contains-append_left, Contains-append_right, Contains-append_cases}
use Rattle.trace_types.proofs.PairLemmas.{AllPairs-append}
use Rattle.trace_types.proofs.ElementLemmas.{Contains-one, Contains-itself}
use Rattle.trace_types.proofs.ListingLemmas.{Contains-nil}
use Rattle.trace_types.specs.Listing.{ListsExactly}

pub ListsExactly-same : {X : Type 0} (cmp : X → X → Ordering) (P Q : X → Type 0) → ((x : X) → P x ↔ Q x) → (xs : List X) → ListsExactly cmp P xs → ListsExactly cmp Q xs
ListsExactly-same cmp P Q same xs h = record {
  rising = h.rising;
  exactly = λ x. ((λ c. (same x).0 ((h.exactly x).0 c)), (λ q. (h.exactly x).1 ((same x).1 q)));
}

pub ListsExactly-nil : {X : Type 0} (cmp : X → X → Ordering) (P : X → Type 0) → ((x : X) → P x → ⊥) → ListsExactly cmp P []
ListsExactly-nil cmp P none = record {
  rising = λ i j d l h. absurd (omega arith);
  exactly = λ x. ((λ c. absurd (Contains-nil x c)), (λ p. absurd (none x p)));
}

pub ListsExactly-one : {X : Type 0} (cmp : X → X → Ordering) (x : X) → ListsExactly cmp (λ y. x ≡ y) (x ∷ [])
ListsExactly-one cmp x = record {
  rising = λ i j d l h. absurd (omega arith);
  exactly = λ y. ((λ c. Contains-one x y c), (λ e. Contains-itself x y e));
}

pub ListsExactly-append : {X : Type 0} (cmp : X → X → Ordering) (P Q R : X → Type 0) → ((x y : X) → P x → Q y → cmp x y ≡ Less) → ((x : X) → R x ↔ (P x ⊎ Q x)) → (xs ys : List X) → ListsExactly cmp P xs → ListsExactly cmp Q ys → ListsExactly cmp R (xs ++ ys)
ListsExactly-append {X} cmp P Q R across same xs ys p q = record {
  rising = AllPairs-append (λ (x y : X). cmp x y ≡ Less) xs ys p.rising q.rising (λ x y c d. across x y ((p.exactly x).0 c) ((q.exactly y).0 d));
  exactly = λ x. (
    (λ c. (same x).1 (⊎_elim (λ (d : Contains xs x). inl ((p.exactly x).0 d)) (λ (d : Contains ys x). inr ((q.exactly x).0 d)) (Contains-append_cases xs ys x c))),
    (λ r. ⊎_elim (λ (h : P x). Contains-append_left xs ys x ((p.exactly x).1 h)) (λ (h : Q x). Contains-append_right xs ys x ((q.exactly x).1 h)) ((same x).0 r)),
  );
}
