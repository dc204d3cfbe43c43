-- Names of the candidates that are early for a segment, which come first.
use Rattle.std.proofs.Common.{◌≡◌, ℕ, ◌+◌, ◌<◌, ◌≤◌, Bool, true, false, ◌&&◌, ◌||◌, ◌==◌, List, length, get_or, take, refl, sym, ap, ◌∙◌, subst, ⊎_elim, arith}
use Rattle.std.proofs.lemmas.Bool.{and_from, and_parts, cases_eq, cases_lt, false≢true}
use Rattle.std.proofs.lemmas.List.{get_or-take, length-take-le}
use Rattle.std.proofs.lemmas.List.Folds.{Any-from_list_any, list_any_at, list_any_more}
use Rattle.std.specs.List.{AllPairs}
use Rattle.trace_types.proofs.TruthLemmas.{by_truth}
use Rattle.refute_tests.specs.inner.Marks.{early_by, early_name, is_named}
use Rattle.trace_types.specs.declared.named_segment.NamedSegment.{NamedSegment}

one_more : (first zero named same : Bool) → ((first || (zero && named)) || (same && zero)) ≡ (first || (zero && (named || same)))
one_more true zero named same = refl
one_more false true true same = refl
one_more false true false true = refl
one_more false true false false = refl
one_more false false named true = refl
one_more false false named false = refl

-- one more name
pub more_named : (candidates : List NamedSegment) (k n c : ℕ) (s : NamedSegment) (new old first : Bool) → k < length candidates → s ≡ get_or candidates k s
    → new ≡ (old || ((n == s.name) && (c == 0))) → old ≡ (first || ((c == 0) && is_named (take k candidates) n)) → new ≡ (first || ((c == 0) && is_named (take (k + 1) candidates) n))
more_named candidates k n c s new old first h at e f =
    e ∙ ap (λ (b : Bool). b || ((n == s.name) && (c == 0))) f
    ∙ one_more first (c == 0) (is_named (take k candidates) n) (n == s.name)
    ∙ ap (λ (b : Bool). first || ((c == 0) && b)) (ap (λ (u : NamedSegment). is_named (take k candidates) n || (n == u.name)) at ∙ sym (list_any_more (λ (u : NamedSegment). n == u.name) candidates k s h))

module _ (forward : Bool) (grace : ℕ) (candidates : List NamedSegment) (t : NamedSegment) (count : ℕ) (within : count ≤ length candidates)
    (early : (k : ℕ) (d : NamedSegment) → k < count → early_by forward grace (get_or candidates k d) t ≡ true)
    (late : (d : NamedSegment) → count < length candidates → early_by forward grace (get_or candidates count d) t ≡ false)
    (first : AllPairs (λ (s u : NamedSegment). early_by forward grace u t ≡ true → early_by forward grace s t ≡ true) candidates) where
  -- an early candidate is one of the first
  among : (k : ℕ) (s : NamedSegment) → k < length candidates → early_by forward grace (get_or candidates k s) t ≡ true → k < count
  among k s l e = ⊎_elim
      (λ (h : k < count). h)
      (λ (h : count ≤ k). absurd (false≢true (sym (late s (omega arith)) ∙ ⊎_elim
      (λ (same : k ≡ count). subst (λ (m : ℕ). early_by forward grace (get_or candidates m s) t ≡ true) same e)
      (λ (ne : k ≡ count → ⊥). first count k s (omega arith) l e)
      (cases_eq k count))))
      (cases_lt k count)

  pub named_early : (n : ℕ) → is_named (take count candidates) n ≡ early_name forward grace candidates t n
  named_early n = by_truth (is_named (take count candidates) n) (early_name forward grace candidates t n)
      (λ h.
      let a = Any-from_list_any (λ (s : NamedSegment). n == s.name) (take count candidates) h in
      let long : length (take count candidates) ≡ count = length-take-le count candidates within in
      let lx : a.0 < count = let q = a.2 in omega arith in
      let here : get_or candidates a.0 a.1 ≡ a.1 = sym (get_or-take count candidates a.0 a.1 lx) ∙ a.3 in
      list_any_at (λ (s : NamedSegment). (n == s.name) && early_by forward grace s t) candidates a.0 a.1 (omega arith)
      (and_from (n == (get_or candidates a.0 a.1).name) (early_by forward grace (get_or candidates a.0 a.1) t)
      (subst (λ (u : NamedSegment). (n == u.name) ≡ true) (sym here) a.4) (early a.0 a.1 lx)))
      (λ h.
      let a = Any-from_list_any (λ (s : NamedSegment). (n == s.name) && early_by forward grace s t) candidates h in
      let p = and_parts (n == a.1.name) (early_by forward grace a.1 t) a.4 in
      let lx : a.0 < count = among a.0 a.1 a.2 (subst (λ (u : NamedSegment). early_by forward grace u t ≡ true) (sym a.3) p.1) in
      let long : length (take count candidates) ≡ count = length-take-le count candidates within in
      let here : get_or (take count candidates) a.0 a.1 ≡ a.1 = get_or-take count candidates a.0 a.1 lx ∙ a.3 in
      list_any_at (λ (s : NamedSegment). n == s.name) (take count candidates) a.0 a.1 (omega arith)
      (subst (λ (u : NamedSegment). (n == u.name) ≡ true) (sym here) p.0))
