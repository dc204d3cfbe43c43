-- The slowest of a list of numbers.
use Rattle.std.proofs.Common.{◌≡◌, ◌⊎◌, inl, inr, ℕ, ◌+◌, ◌-◌, ◌*◌, ◌/◌, ◌<◌, ◌≤◌, Bool, true, false, ◌&&◌, cond, ltb, leb, List, [], ◌∷◌, ◌++◌, length, get_or, take, drop, All, ap, refl, sym, subst, ◌∙◌, arith}
use Rattle.std.specs.Prelude.{count_by, is_some, nat_lt}
use Rattle.std.specs.List.Sorted.{IsNonDecreasing, IsPermutation, IsSorted}
use Rattle.std.specs.Ordering.{nat_cmp}
use Rattle.std.proofs.lemmas.Bool.{cases_lt, le-leb, le-ltb, lt-leb, lt-ltb}
use Rattle.std.proofs.lemmas.List.{get_or_default, get_or-drop, get_or-map, get_or-take, length-drop, length-map, length-take-le, take_all, take_more}
use Rattle.std.proofs.lemmas.List.Elements.{All-head, All-tail}
use Rattle.std.proofs.lemmas.List.Sorted.{IsNonDecreasingBy-from_sort, length_permutation, sum_by-IsPermutation}
use Rattle.std.proofs.lemmas.List.Sums.{count_by-le-length, sum_by-cons, sum_by-take-drop}
use Rattle.trace_quality.proofs.CountLemmas.{IsTallyBelow, tally_more}
use Rattle.trace_quality.specs.Measures.{one_if}
use Rattle.trace_quality.specs.Slowest.{counts_slow, counts_slow_refused, is_slow, spans_of}
use Rattle.trace_quality.specs.inner.Adding.{first_or}
use Rattle.trace_quality.specs.declared.tallies.Tally.{Tally}
use Rattle.trace_quality.specs.Times.{span_of}
use Rattle.trace_quality.specs.declared.trace_facts.TraceFacts.{TraceFacts}

-- where all pass, the count is the length; where none does, it is 0
count_all : (p : ℕ → Bool) (xs : List ℕ) → All (λ x. p x ≡ true) xs → count_by p xs ≡ length xs
count_all p [] all = refl
count_all p (x ∷ xs) all =
    let one = All-head (λ y. p y ≡ true) x xs all in
    let rest = count_all p xs (All-tail (λ y. p y ≡ true) x xs all) in
    let last : 1 + count_by p xs ≡ length (x ∷ xs) = omega arith in
    sum_by-cons (λ y. cond (p y) 1 0) x xs ∙ (ap (λ (b : Bool). cond b 1 0 + count_by p xs) one ∙ last)

count_none : (p : ℕ → Bool) (xs : List ℕ) → All (λ x. p x ≡ false) xs → count_by p xs ≡ 0
count_none p [] all = refl
count_none p (x ∷ xs) all =
    let one = All-head (λ y. p y ≡ false) x xs all in
    let rest = count_none p xs (All-tail (λ y. p y ≡ false) x xs all) in
    let last : 0 + count_by p xs ≡ 0 = omega arith in
    sum_by-cons (λ y. cond (p y) 1 0) x xs ∙ (ap (λ (b : Bool). cond b 1 0 + count_by p xs) one ∙ last)

module _ (ys : List ℕ) (rises : IsNonDecreasing ys) (s p : ℕ) (lt : p < length ys) where
  -- what is above a number stands behind those that are not
  few_above : get_or ys p 0 ≤ s → count_by (nat_lt s) ys ≤ length ys - (p + 1)
  few_above le =
      let none = count_none (nat_lt s) (take (p + 1) ys) (λ k d l. let small : k < p + 1 = omega (arith, l, length-take-le (p + 1) ys (omega (arith, lt))) in
      ap (nat_lt s) (get_or-take (p + 1) ys k d small) ∙ le-ltb s (get_or ys k d) (omega (arith, le, rises k p d (omega (arith, small)) lt, default d))) in
      omega (arith, none, sum_by-take-drop (λ y. cond (nat_lt s y) 1 0) ys (p + 1), count_by-le-length (nat_lt s) (drop (p + 1) ys), length-drop (p + 1) ys)
    where
      default : (d : ℕ) → get_or ys p d ≡ get_or ys p 0
      default d = get_or_default ys p d 0 lt

  many_above : s < get_or ys p 0 → length ys - p ≤ count_by (nat_lt s) ys
  many_above more =
      let all = count_all (nat_lt s) (drop p ys) (λ k d l. let small : p + k < length ys = omega (arith, l, length-drop p ys) in
      ap (nat_lt s) (get_or-drop p ys k d) ∙ lt-ltb s (get_or ys (p + k) d) (omega (arith, more, rises p (p + k) d (omega arith) small, default d))) in
      omega (arith, all, sum_by-take-drop (λ y. cond (nat_lt s y) 1 0) ys p, length-drop p ys)
    where
      default : (d : ℕ) → get_or ys p d ≡ get_or ys p 0
      default d = get_or_default ys p d 0 lt

-- fewer than one in twenty are above a number exactly where the number is not below this one
limit_tells : (ys : List ℕ) → IsNonDecreasing ys → (s : ℕ) → 0 < length ys → ltb (20 * count_by (nat_lt s) ys) (length ys) ≡ leb (get_or ys (length ys - 1 - (length ys - 1) / 20) 0) s
limit_tells ys rises s some = by (cases_lt s (get_or ys (length ys - 1 - (length ys - 1) / 20) 0))
  where
    lt : length ys - 1 - (length ys - 1) / 20 < length ys
    lt = omega arith

    by : (s < get_or ys (length ys - 1 - (length ys - 1) / 20) 0) ⊎ (get_or ys (length ys - 1 - (length ys - 1) / 20) 0 ≤ s) → ltb (20 * count_by (nat_lt s) ys) (length ys) ≡ leb (get_or ys (length ys - 1 - (length ys - 1) / 20) 0) s
    by (inl more) = le-ltb (20 * count_by (nat_lt s) ys) (length ys) (omega (arith, many_above ys rises s _ lt more)) ∙ sym (lt-leb _ s more)
    by (inr le) = lt-ltb (20 * count_by (nat_lt s) ys) (length ys) (omega (arith, few_above ys rises s _ lt le)) ∙ sym (le-leb _ s le)

count_spans : (s : ℕ) (facts : List TraceFacts) → count_by (nat_lt s) (spans_of facts) ≡ count_by (λ (g : TraceFacts). nat_lt s (span_of g.times)) facts
count_spans s [] = refl
count_spans s (f ∷ facts) =
    sum_by-cons (λ y. cond (nat_lt s y) 1 0) (span_of f.times) (spans_of facts)
    ∙ ap (λ (n : ℕ). cond (nat_lt s (span_of f.times)) 1 0 + n) (count_spans s facts)
    ∙ sym (sum_by-cons (λ (g : TraceFacts). cond (nat_lt s (span_of g.times)) 1 0) f facts)

-- a trace is slow exactly where its span is not below this one of the sorted spans
pub slow_limit : (facts : List TraceFacts) (ys : List ℕ) → IsPermutation (spans_of facts) ys → IsSorted nat_cmp ys → 0 < length ys → (f : TraceFacts) → is_slow facts f ≡ leb (get_or ys (length ys - 1 - (length ys - 1) / 20) 0) (span_of f.times)
slow_limit facts ys same sorted some f =
    let s = span_of f.times in
    let long : length ys ≡ length facts = length_permutation (spans_of facts) ys same ∙ length-map facts (λ (g : TraceFacts). span_of g.times) in
    let count = sum_by-IsPermutation (λ y. cond (nat_lt s y) 1 0) (spans_of facts) ys same ∙ count_spans s facts in
    sym (ap (λ (n : ℕ). ltb (20 * n) (length facts)) count) ∙ sym (ap (ltb (20 * count_by (nat_lt s) ys)) long)
    ∙ limit_tells ys (IsNonDecreasingBy-from_sort (λ x. x) ys sorted) s some

-- the spans of one trace more
pub spans_more : (facts : List TraceFacts) (i : ℕ) (d : TraceFacts) (spans after : List ℕ) (span : ℕ) → i < length facts → spans ≡ take i (spans_of facts) → span ≡ span_of (get_or facts i d).times → after ≡ spans ++ span ∷ [] → after ≡ take (i + 1) (spans_of facts)
spans_more facts i d spans after span lt h is e =
    e ∙ ap (λ xs. xs ++ span ∷ []) h
    ∙ ap (λ x. take i (spans_of facts) ++ x ∷ []) (is ∙ sym (get_or-map (λ (g : TraceFacts). span_of g.times) facts i d (span_of d.times) lt))
    ∙ sym (take_more (spans_of facts) i (span_of d.times) (omega (arith, lt, length-map facts (λ (g : TraceFacts). span_of g.times))))

pub spans_all : (facts : List TraceFacts) (i : ℕ) (spans sorted : List ℕ) → length facts ≤ i → spans ≡ take i (spans_of facts) → IsPermutation spans sorted → IsPermutation (spans_of facts) sorted
spans_all facts i spans sorted ge h same =
    subst (λ xs. IsPermutation xs sorted) (h ∙ take_all i (spans_of facts) (omega (arith, ge, length-map facts (λ (g : TraceFacts). span_of g.times)))) same

-- without traces there are no spans
pub no_spans : (facts : List TraceFacts) (ys : List ℕ) → IsPermutation (spans_of facts) ys → length ys ≡ 0 → 0 < length facts → ⊥
no_spans facts ys same none some = omega (arith, none, some, length_permutation (spans_of facts) ys same, length-map facts (λ (g : TraceFacts). span_of g.times))

-- the limit is one of the sorted spans
pub limit_read : (facts : List TraceFacts) (ys : List ℕ) (n at limit d : ℕ) → IsPermutation (spans_of facts) ys → IsSorted nat_cmp ys → n ≡ length ys → at ≡ n - 1 - (n - 1) / 20 → limit ≡ get_or ys at d → (f : TraceFacts) → 0 < length facts → is_slow facts f ≡ leb limit (span_of f.times)
limit_read facts ys n at limit d same sorted long is read f some =
    let full : length ys ≡ length facts = length_permutation (spans_of facts) ys same ∙ length-map facts (λ (g : TraceFacts). span_of g.times) in
    let place : at ≡ length ys - 1 - (length ys - 1) / 20 = is ∙ ap (λ (m : ℕ). m - 1 - (m - 1) / 20) long in
    let lt : at < length ys = omega (arith, is, long, full, some) in
    slow_limit facts ys same sorted (omega (arith, full, some)) f
    ∙ ap (λ (k : ℕ). leb (get_or ys k 0) (span_of f.times)) (sym place)
    ∙ ap (λ (x : ℕ). leb x (span_of f.times)) (get_or_default ys at 0 d lt ∙ sym read)

-- what one trace more counts, by the limit
pub slow_more : (facts : List TraceFacts) (limit : ℕ) → ((f : TraceFacts) → 0 < length facts → is_slow facts f ≡ leb limit (span_of f.times)) → (i : ℕ) (d : TraceFacts) (t u : Tally) (count of : ℕ) → i < length facts → IsTallyBelow (counts_slow_refused facts) (counts_slow facts) facts i t
    → count ≡ one_if (leb limit (span_of (get_or facts i d).times) && is_some (get_or facts i d).verdict.fault) → of ≡ one_if (leb limit (span_of (get_or facts i d).times)) → count < 4294967296 → of < 4294967296 → u.count ≡ t.count + count → u.of ≡ t.of + of → u.first ≡ first_or t.first i count → IsTallyBelow (counts_slow_refused facts) (counts_slow facts) facts (i + 1) u
slow_more facts limit told i d t u count of lt h is is_of small small_of e f g =
    let slow = sym (told (get_or facts i d) (omega (arith, lt))) in
    tally_more (counts_slow_refused facts) (counts_slow facts) facts i d t u count of lt h
    (is ∙ ap (λ (b : Bool). one_if (b && is_some (get_or facts i d).verdict.fault)) slow) (is_of ∙ ap one_if slow) small small_of e f g
