-- Counting names.
use Rattle.std.proofs.Common.{◌≡◌, ℕ, ◌+◌, ◌<◌, ◌≤◌, ◌&&◌, ◌||◌, List, Bool, true, false, cond, Option, Some, unwrap_or, length, get_or, take, ap, refl, sym, subst, ◌∙◌, arith, true≢false}
use Rattle.std.specs.Prelude.{count_by}
use Rattle.std.specs.Cmp.{IsEquivalence}
use Rattle.std.specs.List.{IsDistinct, list_any}
use Rattle.std.proofs.lemmas.List.{get_or-take, get_or_default, length-take-le}
use Rattle.std.proofs.lemmas.List.Folds.{list_any_more, list_any_none}
use Rattle.std.proofs.lemmas.List.Sums.{count_by-le-length}
use Rattle.std.proofs.lemmas.Map.Keys.{apart_from_distinct}
use Rattle.trace_quality.specs.Measures.{one_if}
use Rattle.trace_groups.specs.inner.Names.{is_name}
use Rattle.trace_groups.proofs.PairLemmas.{name_true, name_turn}

-- a key that was counted once more: `value` reads a map by a test
module _ {K : Type 0} (like : K → K → Bool) (laws : IsEquivalence like) (key : K) (n : ℕ) (value : (K → Bool) → Option ℕ) (new : K → Option ℕ) (step : (q : K) → new q ≡ cond (like key q) (Some n) (value (like q))) (is : n ≡ unwrap_or (value (like key)) 0 + 1) where
  pub counted_key : (q : K) → unwrap_or (new q) 0 ≡ unwrap_or (value (like q)) 0 + one_if (like key q)
  counted_key q = by (like key q) refl
    where
      by : (b : Bool) → like key q ≡ b → unwrap_or (new q) 0 ≡ unwrap_or (value (like q)) 0 + one_if (like key q)
      by true e =
          ap (λ (o : Option ℕ). unwrap_or o 0) (step q ∙ ap (λ b. cond b (Some n) (value (like q))) e) ∙ is
          ∙ ap (λ (p : K → Bool). unwrap_or (value p) 0 + 1) (λ i y. laws.congr key q y e i)
          ∙ ap (λ b. unwrap_or (value (like q)) 0 + one_if b) (sym e)
      by false e =
          let none : unwrap_or (value (like q)) 0 ≡ unwrap_or (value (like q)) 0 + 0 = omega arith in
          ap (λ (o : Option ℕ). unwrap_or o 0) (step q ∙ ap (λ b. cond b (Some n) (value (like q))) e) ∙ none
          ∙ ap (λ b. unwrap_or (value (like q)) 0 + one_if b) (sym e)

both : (a l m : Bool) → (m ≡ true → l ≡ false) → one_if (a && l) + one_if (a && m) ≡ one_if (a && (l || m))
both true true true h = absurd (true≢false (h refl))
both true true false h = omega arith
both true false true h = omega arith
both true false false h = omega arith
both false true true h = omega arith
both false true false h = omega arith
both false false true h = omega arith
both false false false h = omega arith

-- no name before an index is the one at it
pub fresh : (names : List (ℕ × ℕ)) (i : ℕ) (d : ℕ × ℕ) → IsDistinct is_name names → i < length names → list_any (is_name (get_or names i d)) (take i names) ≡ false
fresh names i d distinct lt =
    list_any_none (is_name (get_or names i d)) (take i names) (λ k e l. let below : k < i = omega (arith, l, length-take-le i names (omega (arith, lt))) in
    ap (is_name (get_or names i d)) (get_or-take i names k e below ∙ get_or_default names k e d (omega (arith, below, lt))) ∙ name_turn (get_or names i d) (get_or names k d) ∙ apart_from_distinct is_name names k i d distinct below lt)

-- one name more of a trace
pub trace_more : (names : List (ℕ × ℕ)) (i : ℕ) (begin k d : ℕ × ℕ) (row : (ℕ × ℕ) × (ℕ × ℕ)) (before now after : ℕ) → IsDistinct is_name names → i < length names → k ≡ get_or names i d
    → now ≡ before + one_if (is_name begin row.0 && list_any (is_name row.1) (take i names)) → after ≡ now + one_if (is_name begin row.0 && is_name k row.1) → after ≡ before + one_if (is_name begin row.0 && list_any (is_name row.1) (take (i + 1) names))
trace_more names i begin k d row before now after distinct lt is h e =
    let k_turn = name_turn k row.1 in
    let apart : is_name row.1 k ≡ true → list_any (is_name row.1) (take i names) ≡ false = λ same. subst (λ z. list_any (is_name z) (take i names) ≡ false) (sym (name_true row.1 k same ∙ is)) (fresh names i d distinct lt) in
    let sum = both (is_name begin row.0) (list_any (is_name row.1) (take i names)) (is_name row.1 k) apart in
    let here = e ∙ ap (λ b. now + one_if (is_name begin row.0 && b)) k_turn in
    let all = sum ∙ ap (λ z. one_if (is_name begin row.0 && (list_any (is_name row.1) (take i names) || is_name row.1 z))) is ∙ ap (λ b. one_if (is_name begin row.0 && b)) (sym (list_any_more (is_name row.1) names i d lt)) in
    omega (arith, here, h, all)
