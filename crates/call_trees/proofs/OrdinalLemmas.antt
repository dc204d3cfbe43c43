-- Counting keys.
use Rattle.std.proofs.Common.{◌≡◌, ℕ, ◌+◌, ◌<◌, ◌≤◌, List, [], ◌∷◌, ◌++◌, Bool, true, false, cond, Option, Some, length, get_or, take, unwrap_or, refl, sym, ap, ◌∙◌, subst, append-nil, append_assoc, arith, true≢false}
use Rattle.std.specs.Cmp.{IsEquivalence}
use Rattle.std.specs.List.{count_by}
use Rattle.std.proofs.lemmas.List.{get_or_default, length-take-le, take_more, take_all}
use Rattle.std.proofs.lemmas.List.Sums.{count_by-le-length, count_by_more_no, count_by_more_yes}
use Rattle.call_trees.specs.Ordinals.{ordinals_after, ordinals_of}

module _ {K : Type 0} (like : K → K → Bool) where
  pub ordinals_push : (before xs : List K) (x : K) → ordinals_after like before (xs ++ x ∷ []) ≡ ordinals_after like before xs ++ (count_by (like x) (before ++ xs) + 1) ∷ []
  ordinals_push before [] x = ap (λ (ys : List K). (count_by (like x) ys + 1) ∷ []) (sym (append-nil before))
  ordinals_push before (y ∷ xs) x =
      ap (λ (ns : List ℕ). (count_by (like y) before + 1) ∷ ns) (ordinals_push (before ++ y ∷ []) xs x
      ∙ ap (λ (ys : List K). ordinals_after like (before ++ y ∷ []) xs ++ (count_by (like x) ys + 1) ∷ []) (append_assoc before (y ∷ []) xs))

  pub ordinals_more : (keys : List K) (i : ℕ) (k : K) (n : ℕ) (old new : List ℕ) → i < length keys → k ≡ get_or keys i k → n ≡ count_by (like k) (take i keys) + 1 → old ≡ ordinals_of like (take i keys) → new ≡ old ++ n ∷ [] → new ≡ ordinals_of like (take (i + 1) keys)
  ordinals_more keys i k n old new lt is count h step =
      step ∙ ap (λ (ns : List ℕ). ns ++ n ∷ []) h ∙ ap (λ m. ordinals_of like (take i keys) ++ m ∷ []) count
      ∙ sym (ordinals_push [] (take i keys) k) ∙ ap (λ (x : K). ordinals_of like (take i keys ++ x ∷ [])) is ∙ ap (ordinals_of like) (sym (take_more keys i k lt))

  pub ordinals_all : (keys : List K) (i : ℕ) (ns : List ℕ) → length keys ≤ i → ns ≡ ordinals_of like (take i keys) → ns ≡ ordinals_of like keys
  ordinals_all keys i ns le h = h ∙ ap (ordinals_of like) (take_all i keys le)

  pub few : (keys : List K) (i : ℕ) (k : K) → i < length keys → count_by (like k) (take i keys) ≤ i
  few keys i k lt = omega (arith, count_by-le-length (like k) (take i keys), length-take-le i keys (omega (arith, lt)))

  module _ (laws : IsEquivalence like) (keys : List K) (i : ℕ) (k : K) (n : ℕ) (old new : K → Option ℕ) (lt : i < length keys) (is : k ≡ get_or keys i k) (count : n ≡ count_by (like k) (take i keys) + 1) (step : (q : K) → new q ≡ cond (like k q) (Some n) (old q)) (h : (q : K) → unwrap_or (old q) 0 ≡ count_by (like q) (take i keys)) where
    pub counts_more : (q : K) → unwrap_or (new q) 0 ≡ count_by (like q) (take (i + 1) keys)
    counts_more q = by (like k q) refl
      where
        here : (b : Bool) → like k q ≡ b → like q (get_or keys i k) ≡ b
        here b e = ap (like q) (sym is) ∙ laws.symm q k ∙ e

        by : (b : Bool) → like k q ≡ b → unwrap_or (new q) 0 ≡ count_by (like q) (take (i + 1) keys)
        by true e =
            ap (λ (o : Option ℕ). unwrap_or o 0) (step q ∙ ap (λ b. cond b (Some n) (old q)) e) ∙ count
            ∙ ap (λ (p : K → Bool). count_by p (take i keys) + 1) (λ i y. laws.congr k q y e i)
            ∙ sym (count_by_more_yes (like q) keys i k lt (here true e))
        by false e =
            ap (λ (o : Option ℕ). unwrap_or o 0) (step q ∙ ap (λ b. cond b (Some n) (old q)) e) ∙ h q
            ∙ sym (count_by_more_no (like q) keys i k lt (here false e))
