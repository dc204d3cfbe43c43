-- The elements of a list can be listed in rising order, each once.
use Rattle.std.proofs.Common.{◌≡◌, List, [], ◌∷◌, ⊎_elim, inl, inr, Ordering}
use Rattle.std.specs.declared.cmp.Ordering.TheVariants.{Less, Equal}
use Rattle.std.specs.List.{Contains}
use Rattle.std.specs.Cmp.{IsTotalOrder}
use Rattle.trace_types.specs.Listing.{ListsExactly}
use Rattle.trace_types.proofs.ListingLemmas.{Contains-cons, Contains-here, cons_cases}
use Rattle.trace_types.proofs.PairLemmas.{AllPairs-nil}
use Rattle.trace_types.proofs.PuttingLemmas.{put}

module _ {X : Type 0} (cmp : X → X → Ordering) (total : IsTotalOrder cmp) (exact : (x y : X) → cmp x y ≡ Equal → x ≡ y) where
  -- the list with one more element, where the others are listed
  list_more : (x : X) (xs ys : List X) → ListsExactly cmp (Contains xs) ys → (zs : List X) × ListsExactly cmp (Contains (x ∷ xs)) zs
  list_more x xs ys h =
      let p = put cmp total exact x ys h.rising in (
        p.0,
        record {
          rising = p.1.rising;
          exactly = λ z. (
            λ c. ⊎_elim (λ (e : x ≡ z). Contains-here x xs z e) (λ (d : Contains ys z). Contains-cons x xs z ((h.exactly z).0 d)) ((p.1.same z).0 c),
            λ c. ⊎_elim (λ (e : x ≡ z). (p.1.same z).1 (inl e)) (λ (d : Contains xs z). (p.1.same z).1 (inr ((h.exactly z).1 d))) (cons_cases x xs z c),
          );
        },
      )

  pub listed : (xs : List X) → (ys : List X) × ListsExactly cmp (Contains xs) ys
  listed [] = ([], record { rising = AllPairs-nil (λ u v. cmp u v ≡ Less); exactly = λ z. (λ c. c, λ c. c) })
  listed (x ∷ xs) = let h = listed xs in list_more x xs h.0 h.1
