-- The order of first sight, where the test tells equality.
use Rattle.std.proofs.Common.{◌≡◌, ◌≢◌, ℕ, suc, ◌<◌, List, [], ◌∷◌, ◌++◌, length, get_or, filter, Bool, true, false, not, if◌then◌else◌, refl, sym, ap, ◌∙◌, subst, true≢false, arith}
use Rattle.std.specs.List.{list_any}
use Rattle.std.proofs.lemmas.List.Folds.{list_any_at}
use Rattle.std.proofs.lemmas.List.Quantifiers.{all_pairs_push}
use Rattle.trace_types.specs.Firsts.{firsts_of}
use Rattle.event_table.specs.Texts.{AreDifferent}
use Rattle.trace_types.proofs.FirstsLemmas.{with_key, firsts-push}

-- where all pass, a filter keeps all
filter-whole : {X : Type 0} (p : X → Bool) (xs : List X) → ((k : ℕ) (d : X) → k < length xs → p (get_or xs k d) ≡ true) → filter p xs ≡ xs
filter-whole p [] all = refl
filter-whole p (x ∷ xs) all = let e : p x ≡ true = all 0 x (omega arith) in rw (e, filter-whole p xs (λ k d h. all (suc k) d (omega arith))) refl

-- where none passes, no element does
pub none-at : {X : Type 0} (p : X → Bool) (xs : List X) → list_any p xs ≡ false → (k : ℕ) (d : X) → k < length xs → p (get_or xs k d) ≡ false
none-at p xs none k d h = by (p (get_or xs k d)) refl
  where
    by : (b : Bool) → p (get_or xs k d) ≡ b → p (get_or xs k d) ≡ false
    by true e = absurd (true≢false (sym (list_any_at p xs k d h e) ∙ none))
    by false e = e

module _ {X : Type 0} (same : X → X → Bool) (means : (x y : X) → same x y ≡ true → x ≡ y) (own : (x : X) → same x x ≡ true) where
  pub apart : (x y : X) → x ≢ y → same x y ≡ false
  apart x y h = by (same x y) refl
    where
      by : (b : Bool) → same x y ≡ b → same x y ≡ false
      by true e = absurd (h (means x y e))
      by false e = e

  -- a list in which none stands twice
  pub firsts-same : (xs : List X) → AreDifferent xs → firsts_of same xs ≡ xs
  firsts-same [] d = refl
  firsts-same (x ∷ xs) d = rw (firsts-same xs (λ i j e l h. d (suc i) (suc j) e (omega arith) (omega arith))) (ap (λ (l : List X). x ∷ l)
      (filter-whole (λ z. not (same x z)) xs (λ k e h. let a : same x (get_or xs k e) ≡ false = apart x (get_or xs k e) (d 0 (suc k) e (omega arith) (omega arith)) in rw a refl)))

  pub firsts-there : (xs : List X) (x : X) → AreDifferent xs → list_any (same x) xs ≡ true → firsts_of same (xs ++ x ∷ []) ≡ xs
  firsts-there xs x d t = firsts-push same means own xs x ∙ ap (λ (l : List X). with_key same l x) (firsts-same xs d) ∙ ap (λ (b : Bool). if b then xs else xs ++ x ∷ []) t

  pub firsts-new : (xs : List X) (x : X) → AreDifferent xs → list_any (same x) xs ≡ false → firsts_of same (xs ++ x ∷ []) ≡ xs ++ x ∷ []
  firsts-new xs x d t = firsts-push same means own xs x ∙ ap (λ (l : List X). with_key same l x) (firsts-same xs d) ∙ ap (λ (b : Bool). if b then xs else xs ++ x ∷ []) t

  pub differ-new : (xs : List X) (x : X) → AreDifferent xs → list_any (same x) xs ≡ false → AreDifferent (xs ++ x ∷ [])
  differ-new xs x d t = all_pairs_push (λ (a b : X). a ≢ b) xs x d (λ k e h s. true≢false (sym (own x) ∙ subst (λ (z : X). same x z ≡ false) s (none-at (same x) xs t k e h)))

  -- one more, after what is known of the first
  pub firsts-step : (xs ys : List X) (x : X) → AreDifferent ys → ys ≡ firsts_of same xs → firsts_of same (ys ++ x ∷ []) ≡ firsts_of same (xs ++ x ∷ [])
  firsts-step xs ys x d e = firsts-push same means own ys x ∙ ap (λ (l : List X). with_key same l x) (firsts-same ys d ∙ e) ∙ sym (firsts-push same means own xs x)
