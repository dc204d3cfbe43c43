-- One more pair, and one more segment: words rise by themselves.
use Rattle.std.proofs.Common.{◌≡◌, ℕ, zero, suc, ◌+◌, ◌<◌, ◌≤◌, Bool, true, false, ◌||◌, List, length, get_or, take, slice_get, Some, unwrap_or, refl, sym, ap, ◌∙◌, subst, ⊎_elim, arith}
use Rattle.std.proofs.lemmas.Bool.{cases_order, false≢true, or_cases, or_left, or_right}
use Rattle.std.proofs.lemmas.List.Folds.{list_any_more}
use Rattle.std.proofs.lemmas.Option.{slice_get_read}
use Rattle.std.specs.List.{list_any}
use Rattle.std.specs.Option.{option_map}
use Rattle.hypothesis_index.specs.Places.{pairs_below}
use Rattle.word_rows.proofs.ViewLemmas.{or_assoc}
use Rattle.refute_tests.specs.inner.Hits.{row_start, any_below, hits, row_hits, all_hits}
use Rattle.trace_types.specs.declared.named_segment.NamedSegment.{NamedSegment}
use Rattle.word_rows.specs.declared.entries.Entry.{Entry}
use Rattle.word_rows.specs.Meeting.{BelowWider}
use Rattle.word_rows.specs.Rows.{below}

abbrev pub PairsFollow : Type 0
PairsFollow = (high higher : ℕ) → high < higher → (pairs_below high + high) ≤ pairs_below higher

pub any_below-some : (n : ℕ) (p : ℕ → Bool) → any_below n p ≡ true → (k : ℕ) × (k < n) × (p k ≡ true)
any_below-some zero p t = absurd (false≢true t)
any_below-some (suc n) p t = ⊎_elim
    (λ (h : any_below n p ≡ true). let r = any_below-some n p h in let l : r.0 < n = r.1 in (r.0, omega arith, r.2))
    (λ (h : p n ≡ true). (n, omega arith, h))
    (or_cases (any_below n p) (p n) t)

pub any_below-from : (n : ℕ) (p : ℕ → Bool) (k : ℕ) → k < n → p k ≡ true → any_below n p ≡ true
any_below-from zero p k l t = absurd (omega arith)
any_below-from (suc n) p k l t = ⊎_elim
    (λ (e : k ≡ n). or_right (any_below n p) (p n) (subst (λ (m : ℕ). p m ≡ true) e t))
    (⊎_elim (λ (h : k < n). or_left (any_below n p) (p n) (any_below-from n p k h t)) (λ (h : n < k). absurd (omega arith)))
    (cases_order k n)

any_below-step : (n : ℕ) (p : ℕ → Bool) → any_below (n + 1) p ≡ (any_below n p || p n)
any_below-step n p = let e : n + 1 ≡ suc n = omega arith in ap (λ (m : ℕ). any_below m p) e

-- one more segment of those before
pub more_cleared : (p : NamedSegment → Bool) (before : List NamedSegment) (k : ℕ) (s : NamedSegment) (new old first : Bool) → k < length before → s ≡ get_or before k s
    → new ≡ (old || p s) → old ≡ (first || list_any p (take k before)) → new ≡ (first || list_any p (take (k + 1) before))
more_cleared p before k s new old first h at e f = e ∙ ap (λ (b : Bool). b || p s) f ∙ or_assoc first (list_any p (take k before)) (p s)
    ∙ ap (λ (b : Bool). first || (list_any p (take k before) || b)) (ap p at) ∙ ap (λ (b : Bool). first || b) (sym (list_any_more p before k s h))

-- one more row
pub more_rows : (grace : ℕ) (segments : List NamedSegment) (k : ℕ) (t : NamedSegment) (i b : ℕ) (new old first : Bool) → k < length segments → t ≡ get_or segments k t
    → new ≡ (old || list_any (λ s. hits grace s t i b) (take k segments)) → old ≡ (first || all_hits grace segments k i b) → new ≡ (first || all_hits grace segments (k + 1) i b)
more_rows grace segments k t i b new old first h at e f =
    let g : slice_get segments k ≡ Some t = slice_get_read segments (length segments) k t refl h at in
    let r : row_hits grace segments k i b ≡ list_any (λ s. hits grace s t i b) (take k segments) = ap (λ o. unwrap_or (option_map (λ (t : NamedSegment). list_any (λ s. hits grace s t i b) (take k segments)) o) false) g in
    e ∙ (λ j. f j || sym r j) ∙ or_assoc first (all_hits grace segments k i b) (row_hits grace segments k i b) ∙ ap (λ (c : Bool). first || c) (sym (any_below-step k (λ y. row_hits grace segments y i b)))

module _ (wider : BelowWider) (follow : PairsFollow) (row : List Entry) where
  pub next_row : (j j' : ℕ) → j < j' → below (row_start (j + 1) + 1) row ≡ true → below (row_start j' + 1) row ≡ true
  next_row j j' l t = ⊎_elim
      (λ (e : j + 1 ≡ j'). subst (λ (n : ℕ). below (row_start n + 1) row ≡ true) e t)
      (⊎_elim
      (λ (e : j + 1 < j'). let s = follow (j + 1) j' e in wider (row_start (j + 1) + 1) (row_start j' + 1) row (omega arith) t)
      (λ (e : j' < j + 1). absurd (omega arith)))
      (cases_order (j + 1) j')
