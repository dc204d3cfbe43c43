-- The least and the greatest time of the first so many traces.
use Rattle.std.proofs.Common.{◌≡◌, inl, inr, ℕ, ◌+◌, ◌<◌, ◌≤◌, min, max, List, length, get_or, Any, ap, refl, sym, subst, ◌∙◌, arith, ⊎_elim}
use Rattle.std.proofs.lemmas.Bool.{cases_lt}
use Rattle.std.proofs.lemmas.List.{get_or_default}
use Rattle.trace_quality.specs.declared.times.Times.{Times}
use Rattle.trace_quality.specs.declared.trace_facts.TraceFacts.{TraceFacts}
use Rattle.trace_quality.specs.Extremes.{AreExtremes}

-- some number of the list is this one, and none of the first so many is less, or greater
pub record IsLeastBelow {X : Type 0} (f : X → ℕ) (xs : List X) (n least : ℕ) : Type 0 where
  pub some : Any (λ x. f x ≡ least) xs
  pub none : (k : ℕ) (d : X) → k < n → least ≤ f (get_or xs k d)

pub record IsGreatestBelow {X : Type 0} (f : X → ℕ) (xs : List X) (n greatest : ℕ) : Type 0 where
  pub some : Any (λ x. f x ≡ greatest) xs
  pub none : (k : ℕ) (d : X) → k < n → f (get_or xs k d) ≤ greatest

module _ {X : Type 0} (f : X → ℕ) (xs : List X) (n : ℕ) (x : X) (lt : n < length xs) (is : x ≡ get_or xs n x) where
  up_to : (P : ℕ → X → Type 0) → ((k : ℕ) (d : X) → k < n → P k d) → ((d : X) → P n d) → (k : ℕ) (d : X) → k < n + 1 → P k d
  up_to P below here k d l = elim (cases_lt k n) [
    | inl less ↦ below k d less
    | inr ge ↦ let same : n ≡ k = omega arith in subst (λ j. P j d) same (here d)
  ]

  at : (d : X) → f (get_or xs n d) ≡ f x
  at d = ap f (get_or_default xs n d x lt ∙ sym is)

  pub least_more : (least : ℕ) → IsLeastBelow f xs n least → IsLeastBelow f xs (n + 1) (min least (f x))
  least_more least h = ⊎_elim
      (λ (l : f x < least). let e : f x ≡ min least (f x) = omega (arith, l) in record {
        some = (n, x, lt, sym is, e);
        none = up_to (λ k d. min least (f x) ≤ f (get_or xs k d)) (λ k d l'. omega (arith, h.none k d l')) (λ d. omega (arith, at d));
      })
      (λ (g : least ≤ f x). let e : least ≡ min least (f x) = omega (arith, g) in record {
        some = subst (λ m. Any (λ y. f y ≡ m) xs) e h.some;
        none = up_to (λ k d. min least (f x) ≤ f (get_or xs k d)) (λ k d l'. omega (arith, h.none k d l')) (λ d. omega (arith, at d));
      })
      (cases_lt (f x) least)

  pub greatest_more : (greatest : ℕ) → IsGreatestBelow f xs n greatest → IsGreatestBelow f xs (n + 1) (max greatest (f x))
  greatest_more greatest h = ⊎_elim
      (λ (l : greatest < f x). let e : f x ≡ max greatest (f x) = omega (arith, l) in record {
        some = (n, x, lt, sym is, e);
        none = up_to (λ k d. f (get_or xs k d) ≤ max greatest (f x)) (λ k d l'. omega (arith, h.none k d l')) (λ d. omega (arith, at d));
      })
      (λ (g : f x ≤ greatest). let e : greatest ≡ max greatest (f x) = omega (arith, g) in record {
        some = subst (λ m. Any (λ y. f y ≡ m) xs) e h.some;
        none = up_to (λ k d. f (get_or xs k d) ≤ max greatest (f x)) (λ k d l'. omega (arith, h.none k d l')) (λ d. omega (arith, at d));
      })
      (cases_lt greatest (f x))

-- the least and the greatest time of the first so many traces
pub record AreExtremesBelow (facts : List TraceFacts) (n : ℕ) (t : Times) : Type 0 where
  pub least : IsLeastBelow (λ (f : TraceFacts). f.times.least) facts n t.least
  pub greatest : IsGreatestBelow (λ (f : TraceFacts). f.times.greatest) facts n t.greatest

module _ (facts : List TraceFacts) where
  pub extremes_one : (f : TraceFacts) → 0 < length facts → f ≡ get_or facts 0 f → AreExtremesBelow facts 1 f.times
  extremes_one f lt is = record {
    least = record { some = (0, f, lt, sym is, refl); none = λ k d l. first (λ j e. f.times.least ≤ (get_or facts j e).times.least) k l d (λ e. omega (arith, ap (λ (g : TraceFacts). g.times.least) (get_or_default facts 0 e f lt ∙ sym is))) };
    greatest = record { some = (0, f, lt, sym is, refl); none = λ k d l. first (λ j e. (get_or facts j e).times.greatest ≤ f.times.greatest) k l d (λ e. omega (arith, ap (λ (g : TraceFacts). g.times.greatest) (get_or_default facts 0 e f lt ∙ sym is))) };
  }
    where
      first : (P : ℕ → TraceFacts → Type 0) (k : ℕ) → k < 1 → (d : TraceFacts) → ((e : TraceFacts) → P 0 e) → P k d
      first P k l d h = let same : 0 ≡ k = omega arith in subst (λ j. P j d) same (h d)

  pub extremes_more : (n : ℕ) (t u : Times) (d : TraceFacts) → n < length facts → AreExtremesBelow facts n t → u.least ≡ min t.least (get_or facts n d).times.least → u.greatest ≡ max t.greatest (get_or facts n d).times.greatest → AreExtremesBelow facts (n + 1) u
  extremes_more n t u d lt h e g =
      let is = get_or_default facts n d (get_or facts n d) lt in
      record {
        least = subst (IsLeastBelow (λ (x : TraceFacts). x.times.least) facts (n + 1)) (sym e) (least_more (λ (x : TraceFacts). x.times.least) facts n (get_or facts n d) lt is t.least h.least);
        greatest = subst (IsGreatestBelow (λ (x : TraceFacts). x.times.greatest) facts (n + 1)) (sym g) (greatest_more (λ (x : TraceFacts). x.times.greatest) facts n (get_or facts n d) lt is t.greatest h.greatest);
      }

  pub extremes_all : (n : ℕ) (t : Times) → length facts ≤ n → AreExtremesBelow facts n t → AreExtremes facts t
  extremes_all n t ge h = record {
    some_least = h.least.some;
    none_less = λ k d l. h.least.none k d (omega (arith, ge, l));
    some_greatest = h.greatest.some;
    none_greater = λ k d l. h.greatest.none k d (omega (arith, ge, l));
  }
