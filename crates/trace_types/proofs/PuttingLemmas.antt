-- An element is put into a rising list.
use Rattle.std.proofs.Common.{◌≡◌, ◌⊎◌, ◌↔◌, List, [], ◌∷◌, refl, sym, ap, ◌∙◌, subst, ⊎_elim, inl, inr, Ordering}
use Rattle.std.specs.declared.cmp.Ordering.TheVariants.{Less, Equal, Greater}
use Rattle.std.specs.List.{All, AllPairs, Contains}
use Rattle.std.specs.Cmp.{IsTotalOrder}
use Rattle.std.specs.Ordering.{ordering_reverse}
use Rattle.std.proofs.lemmas.List.Elements.{All-cons, All-nil, Contains-get_or}
use Rattle.std.proofs.lemmas.List.Kept.{AllPairs-cons}
use Rattle.trace_types.proofs.ListingLemmas.{Contains-nil, Contains-cons, Contains-here, cons_cases, pairs_tail, head_before}

pub all_contained : {X : Type 0} (P : X → Type 0) (xs : List X) → ((z : X) → Contains xs z → P z) → All P xs
all_contained P xs each = λ k d lt. each _ (Contains-get_or xs k d lt)

module _ {X : Type 0} (cmp : X → X → Ordering) where
  -- the list rises
  abbrev pub Rises : List X → Type 0
  Rises xs = AllPairs (λ x y. cmp x y ≡ Less) xs

  -- the rising list has this element and those of another
  pub record IsPut (x : X) (ys zs : List X) : Type 0 where
    pub rising : Rises zs
    pub same : (z : X) → Contains zs z ↔ ((x ≡ z) ⊎ Contains ys z)

module _ {X : Type 0} (cmp : X → X → Ordering) (total : IsTotalOrder cmp) (exact : (x y : X) → cmp x y ≡ Equal → x ≡ y) where
  -- an element is put into a rising list with this head, where it can be put into the rest
  pub put_at : (x y : X) (ys : List X) → Rises cmp (y ∷ ys) → (zs : List X) × IsPut cmp x ys zs → (o : Ordering) → cmp x y ≡ o → (zs : List X) × IsPut cmp x (y ∷ ys) zs
  put_at x y ys rising rest Less e = (
    x ∷ y ∷ ys,
    record {
      rising = AllPairs-cons (λ u v. cmp u v ≡ Less) x (y ∷ ys) (All-cons (λ v. cmp x v ≡ Less) y ys e (all_contained (λ v. cmp x v ≡ Less) ys (λ z c. total.trans x y z e (head_before (λ u v. cmp u v ≡ Less) y ys z rising c)))) rising;
      same = λ z. (cons_cases x (y ∷ ys) z, λ s. ⊎_elim (λ (h : x ≡ z). Contains-here x (y ∷ ys) z h) (λ (c : Contains (y ∷ ys) z). Contains-cons x (y ∷ ys) z c) s);
    },
  )
  put_at x y ys rising rest Equal e = (
    y ∷ ys,
    record {
      rising = rising;
      same = λ z. (λ c. inr c, λ s. ⊎_elim (λ (h : x ≡ z). Contains-here y ys z (sym (exact x y e) ∙ h)) (λ (c : Contains (y ∷ ys) z). c) s);
    },
  )
  put_at x y ys rising (zs, p) Greater e =
      let before : cmp y x ≡ Less = total.antisymm y x ∙ ap ordering_reverse e in (
        y ∷ zs,
        record {
          rising = AllPairs-cons (λ u v. cmp u v ≡ Less) y zs (all_contained (λ v. cmp y v ≡ Less) zs (λ z c. ⊎_elim (λ (h : x ≡ z). subst (λ v. cmp y v ≡ Less) h before) (λ (d : Contains ys z). head_before (λ u v. cmp u v ≡ Less) y ys z rising d) ((p.same z).0 c))) p.rising;
          same = λ z. (
            λ c. ⊎_elim (λ (h : y ≡ z). inr (Contains-here y ys z h)) (λ (d : Contains zs z). ⊎_elim (λ (h : x ≡ z). inl h) (λ (f : Contains ys z). inr (Contains-cons y ys z f)) ((p.same z).0 d)) (cons_cases y zs z c),
            λ s. ⊎_elim (λ (h : x ≡ z). Contains-cons y zs z ((p.same z).1 (inl h))) (λ (c : Contains (y ∷ ys) z). ⊎_elim (λ (h : y ≡ z). Contains-here y zs z h) (λ (d : Contains ys z). Contains-cons y zs z ((p.same z).1 (inr d))) (cons_cases y ys z c)) s,
          );
        },
      )

  pub put : (x : X) (ys : List X) → Rises cmp ys → (zs : List X) × IsPut cmp x ys zs
  put x [] rising = (
    x ∷ [],
    record {
      rising = AllPairs-cons (λ u v. cmp u v ≡ Less) x [] (All-nil (λ v. cmp x v ≡ Less)) rising;
      same = λ z. (cons_cases x [] z, λ s. ⊎_elim (λ (h : x ≡ z). Contains-here x [] z h) (λ (c : Contains [] z). absurd (Contains-nil z c)) s);
    },
  )
  put x (y ∷ ys) rising = put_at x y ys rising (put x ys (pairs_tail (λ u v. cmp u v ≡ Less) y ys rising)) (cmp x y) refl
