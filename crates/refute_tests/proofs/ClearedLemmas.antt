-- The tables of a trace clear what its pairs refute.
use Rattle.std.proofs.Common.{◌≡◌, ℕ, ◌+◌, ◌-◌, ◌*◌, ◌/◌, ◌%◌, ◌^◌, ◌<◌, ◌≤◌, Bool, true, false, ◌&&◌, ◌||◌, ◌==◌, nat_le, nat_lt, List, length, get_or, slice_get, slice_index, Some, All, bit_and, IsPermutation, ◌⊎◌, inl, inr, refl, sym, ap, ◌∙◌, subst, ⊎_elim, arith}
use Rattle.std.proofs.Math.Nat.{mod-lt}
use Rattle.std.proofs.lemmas.Bool.{and_from, and_parts, cases_eq, cases_lt, cases_order, eq-eqb, eqb-true, false≢true, le-leb, leb-true, lt-ltb, ltb-true, or_cases, or_left, or_right}
use Rattle.std.proofs.lemmas.List.Folds.{Any-from_list_any, list_any-from_Any}
use Rattle.std.proofs.lemmas.List.Sorted.{All-permutation, Contains-permutation, IsPermutation-sym}
use Rattle.std.proofs.lemmas.Option.{get_or_from_slice_get, slice_get_within}
use Rattle.std.proofs.lemmas.Nat.Bits.{bit_at_above}
use Rattle.std.specs.Int.{bit_at}
use Rattle.std.specs.List.{Contains, list_any}
use Rattle.hypothesis_index.specs.Places.{pairs_below, width_of}
use Rattle.hypothesis_index.specs.declared.relation.Relation.TheVariants.{Before, Exclusive, Apart}
use Rattle.trace_types.proofs.TruthLemmas.{by_truth}
use Rattle.hypothesis_index.proofs.PairLemmas.{pairs_below-512}
use Rattle.refute_tests.proofs.ExactLemmas.{at_from, at_means, cleared_pair, one_of_name, pair_cleared}
use Rattle.refute_tests.proofs.MaskLemmas.{slots_end}
use Rattle.refute_tests.proofs.StepLemmas.{PairsFollow}
use Rattle.refute_tests.proofs.WordLemmas.{apart_at, at_apart, at_backward, at_exclusive, at_forward, backward_at, exclusive_at, forward_at, kind_bits, mark_bit, moved_one, moved_two, not_moved}
use Rattle.refute_tests.specs.Clearing.{starts_early, is_at}
use Rattle.refute_tests.specs.inner.Hits.{NamesRise, all_hits, hits}
use Rattle.refute_tests.specs.inner.Marks.{backward_marks, early_name, forward_marks, has_mark, in_row, is_named, kinds_word, table_clears}
use Rattle.word_rows.specs.Words.{AreWords}
use Rattle.std.proofs.Math.ListN.{get_or-eq_default}
use Rattle.trace_types.specs.declared.named_segment.NamedSegment.{NamedSegment}

-- two segments whose names have this pair number, the lesser name first
pub record IsPair (segments : List NamedSegment) (p : ℕ) (s t : NamedSegment) : Type 0 where
  pub lesser : Contains segments s
  pub greater : Contains segments t
  pub rises : s.name < t.name
  pub number : p ≡ pairs_below t.name + s.name

passes : (test : NamedSegment → Bool) (xs : List NamedSegment) (x : NamedSegment) → Contains xs x → test x ≡ true → list_any test xs ≡ true
passes test xs x c h = list_any-from_Any test xs (c.0, x, c.1, c.2, h)

row_means : (name p : ℕ) → in_row name p ≡ true → (pairs_below name ≤ p) × (p < pairs_below name + name)
row_means name p h = let q = and_parts (nat_le (pairs_below name) p) (nat_lt p (pairs_below name + name)) h in
    (leb-true (pairs_below name) p q.0, ltb-true p (pairs_below name + name) q.1)

row_from : (name p : ℕ) → pairs_below name ≤ p → p < pairs_below name + name → in_row name p ≡ true
row_from name p a b = and_from (nat_le (pairs_below name) p) (nat_lt p (pairs_below name + name)) (le-leb (pairs_below name) p a) (lt-ltb p (pairs_below name + name) b)

module _ (grace : ℕ) (segments greater lesser : List NamedSegment) (pg : IsPermutation greater segments) (pl : IsPermutation lesser segments)
    (gp : IsPermutation segments greater) (lp : IsPermutation segments lesser) where
  found : (p m : ℕ) (s t : NamedSegment) → Contains greater t → Contains lesser s → (pairs_below t.name ≤ p) × (p < pairs_below t.name + t.name) → m ≡ p - pairs_below t.name → m ≡ s.name → IsPair segments p s t
  found p m s t ct cs r em es = let a = r.0 in let b = r.1 in record {
    lesser = Contains-permutation lesser segments s pl cs;
    greater = Contains-permutation greater segments t pg ct;
    rises = omega arith;
    number = omega arith;
  }

  forward_pair : (p c : ℕ) → list_any (λ t. forward_marks grace lesser t p c) greater ≡ true
      → (s t : NamedSegment) × IsPair segments p s t × ((c ≡ 3) ⊎ ((c ≡ 0) × (starts_early grace t s ≡ true)))
  forward_pair p c h =
      let a = Any-from_list_any (λ t. forward_marks grace lesser t p c) greater h in
      let t : NamedSegment = a.1 in
      let m : ℕ = p - pairs_below t.name in
      let q = and_parts (in_row t.name p) (((c == 3) && is_named lesser m) || ((c == 0) && early_name true grace lesser t m)) a.4 in
      let r = row_means t.name p q.0 in
      ⊎_elim
      (λ (o : ((c == 3) && is_named lesser m) ≡ true).
      let k = and_parts (c == 3) (is_named lesser m) o in
      let s = Any-from_list_any (λ (u : NamedSegment). m == u.name) lesser k.1 in
      let pair = found p m s.1 t (a.0, a.2, a.3) (s.0, s.2, s.3) r refl (eqb-true m s.1.name s.4) in
      let kind : (c ≡ 3) ⊎ ((c ≡ 0) × (starts_early grace t s.1 ≡ true)) = inl (eqb-true c 3 k.0) in
      let whole : (s t : NamedSegment) × IsPair segments p s t × ((c ≡ 3) ⊎ ((c ≡ 0) × (starts_early grace t s ≡ true))) = (s.1, t, pair, kind) in whole)
      (λ (o : ((c == 0) && early_name true grace lesser t m) ≡ true).
      let k = and_parts (c == 0) (early_name true grace lesser t m) o in
      let s = Any-from_list_any (λ (u : NamedSegment). (m == u.name) && starts_early grace t u) lesser k.1 in
      let z = and_parts (m == s.1.name) (starts_early grace t s.1) s.4 in
      let pair = found p m s.1 t (a.0, a.2, a.3) (s.0, s.2, s.3) r refl (eqb-true m s.1.name z.0) in
      let kind : (c ≡ 3) ⊎ ((c ≡ 0) × (starts_early grace t s.1 ≡ true)) = inr (eqb-true c 0 k.0, z.1) in
      let whole : (s t : NamedSegment) × IsPair segments p s t × ((c ≡ 3) ⊎ ((c ≡ 0) × (starts_early grace t s ≡ true))) = (s.1, t, pair, kind) in whole)
      (or_cases ((c == 3) && is_named lesser m) ((c == 0) && early_name true grace lesser t m) q.1)

  backward_pair : (p c : ℕ) → list_any (λ t. backward_marks grace lesser t p c) greater ≡ true
      → (s t : NamedSegment) × IsPair segments p s t × (c ≡ 0) × (starts_early grace s t ≡ true)
  backward_pair p c h =
      let a = Any-from_list_any (λ t. backward_marks grace lesser t p c) greater h in
      let t : NamedSegment = a.1 in
      let m : ℕ = p - pairs_below t.name in
      let q = and_parts (in_row t.name p) ((c == 0) && early_name false grace lesser t m) a.4 in
      let r = row_means t.name p q.0 in
      let k = and_parts (c == 0) (early_name false grace lesser t m) q.1 in
      let s = Any-from_list_any (λ (u : NamedSegment). (m == u.name) && starts_early grace u t) lesser k.1 in
      let z = and_parts (m == s.1.name) (starts_early grace s.1 t) s.4 in
      let pair = found p m s.1 t (a.0, a.2, a.3) (s.0, s.2, s.3) r refl (eqb-true m s.1.name z.0) in
      (s.1, t, pair, eqb-true c 0 k.0, z.1)

  -- the other way
  in_greater : (p : ℕ) (s t : NamedSegment) → IsPair segments p s t → (pairs_below t.name ≤ p) × (p < pairs_below t.name + t.name) × (p - pairs_below t.name ≡ s.name)
  in_greater p s t pair = let n = pair.number in let l = pair.rises in (omega arith, omega arith, omega arith)

  pub present : (p : ℕ) (s t : NamedSegment) → IsPair segments p s t → list_any (λ u. forward_marks grace lesser u p 3) greater ≡ true
  present p s t pair =
      let r = in_greater p s t pair in
      let m : ℕ = p - pairs_below t.name in
      let named = passes (λ (u : NamedSegment). m == u.name) lesser s (Contains-permutation segments lesser s lp pair.lesser) (eq-eqb m s.name r.2) in
      passes (λ u. forward_marks grace lesser u p 3) greater t (Contains-permutation segments greater t gp pair.greater)
      (and_from (in_row t.name p) (is_named lesser m || false) (row_from t.name p r.0 r.1) (or_left (is_named lesser m) false named))

  pub forward : (p : ℕ) (s t : NamedSegment) → IsPair segments p s t → starts_early grace t s ≡ true → list_any (λ u. forward_marks grace lesser u p 0) greater ≡ true
  forward p s t pair is =
      let r = in_greater p s t pair in
      let m : ℕ = p - pairs_below t.name in
      let named = passes (λ (u : NamedSegment). (m == u.name) && starts_early grace t u) lesser s (Contains-permutation segments lesser s lp pair.lesser)
      (and_from (m == s.name) (starts_early grace t s) (eq-eqb m s.name r.2) is) in
      passes (λ u. forward_marks grace lesser u p 0) greater t (Contains-permutation segments greater t gp pair.greater)
      (and_from (in_row t.name p) (early_name true grace lesser t m) (row_from t.name p r.0 r.1) named)

  pub backward : (p : ℕ) (s t : NamedSegment) → IsPair segments p s t → starts_early grace s t ≡ true → list_any (λ u. backward_marks grace lesser u p 0) greater ≡ true
  backward p s t pair is =
      let r = in_greater p s t pair in
      let m : ℕ = p - pairs_below t.name in
      let named = passes (λ (u : NamedSegment). (m == u.name) && starts_early grace u t) lesser s (Contains-permutation segments lesser s lp pair.lesser)
      (and_from (m == s.name) (starts_early grace s t) (eq-eqb m s.name r.2) is) in
      passes (λ u. backward_marks grace lesser u p 0) greater t (Contains-permutation segments greater t gp pair.greater)
      (and_from (in_row t.name p) (early_name false grace lesser t m) (row_from t.name p r.0 r.1) named)

-- one number has one pair
same_pair : PairsFollow → (segments : List NamedSegment) → NamesRise segments → (p : ℕ) (s t u v : NamedSegment) → IsPair segments p s t → IsPair segments p u v → (s ≡ u) × (t ≡ v)
same_pair follow segments rise p s t u v one other =
    let a = one.number in let b = other.number in let c = one.rises in let d = other.rises in
    let greater : t.name ≡ v.name = ⊎_elim
    (λ (e : t.name ≡ v.name). e)
    (⊎_elim
    (λ (e : t.name < v.name). absurd (let f = follow t.name v.name e in omega arith))
    (λ (e : v.name < t.name). absurd (let f = follow v.name t.name e in omega arith)))
    (cases_order t.name v.name) in
    let same : pairs_below t.name ≡ pairs_below v.name = ap pairs_below greater in
    let lesser : s.name ≡ u.name = omega arith in
    (one_of_name segments rise s u one.lesser other.lesser lesser, one_of_name segments rise t v one.greater other.greater greater)

-- the place of a pair's kind that a bit of a word tells
spot : (i b kind : ℕ) → 126 ≤ i → b < 64 → kind < 4 → b % 4 ≡ kind → (126 + (16 * (i - 126) + b / 4) / 16 ≡ i) × (4 * ((16 * (i - 126) + b / 4) % 16) + kind ≡ b)
spot i b kind h l m e = (omega arith, omega arith)

module _ (follow : PairsFollow) (grace : ℕ) (segments : List NamedSegment) (rise : NamesRise segments) (forward_words backward_words : List ℕ)
    (narrow : (k : ℕ) → slice_index forward_words k < 2 ^ 64)
    (to_pair : (p c : ℕ) → c < 4 → has_mark forward_words p c ≡ true → (s t : NamedSegment) × IsPair segments p s t × ((c ≡ 3) ⊎ ((c ≡ 0) × (starts_early grace t s ≡ true))))
    (to_back : (p c : ℕ) → c < 4 → has_mark backward_words p c ≡ true → (s t : NamedSegment) × IsPair segments p s t × (c ≡ 0) × (starts_early grace s t ≡ true))
    (is_there : (p : ℕ) (s t : NamedSegment) → IsPair segments p s t → has_mark forward_words p 3 ≡ true)
    (is_forward : (p : ℕ) (s t : NamedSegment) → IsPair segments p s t → starts_early grace t s ≡ true → has_mark forward_words p 0 ≡ true)
    (is_backward : (p : ℕ) (s t : NamedSegment) → IsPair segments p s t → starts_early grace s t ≡ true → has_mark backward_words p 0 ≡ true) where
  cleared : (i b : ℕ) (s t : NamedSegment) (p : ℕ) → IsPair segments p s t → hits grace s t i b ≡ true → all_hits grace segments (length segments) i b ≡ true
  cleared i b s t p pair h = pair_cleared segments rise grace s t pair.lesser pair.greater pair.rises i b h

  -- ---- what a pair of this number refutes
  hit_forward : (i b p : ℕ) (s t : NamedSegment) → IsPair segments p s t → starts_early grace t s ≡ true → (126 + p / 16 ≡ i) × (4 * (p % 16) + 0 ≡ b) → hits grace s t i b ≡ true
  hit_forward i b p s t pair e at = or_left _ _ (or_left _ _ (or_left _ _ (and_from (starts_early grace t s) (is_at (Before s.name t.name) i b) e
      (at_from (Before s.name t.name) i b _ (forward_at s.name t.name p i b pair.rises pair.number at.0 at.1) refl))))

  hit_backward : (i b p : ℕ) (s t : NamedSegment) → IsPair segments p s t → starts_early grace s t ≡ true → (126 + p / 16 ≡ i) × (4 * (p % 16) + 1 ≡ b) → hits grace s t i b ≡ true
  hit_backward i b p s t pair e at = or_left _ _ (or_left _ _ (or_right _ _ (and_from (starts_early grace s t) (is_at (Before t.name s.name) i b) e
      (at_from (Before t.name s.name) i b _ (backward_at s.name t.name p i b pair.rises pair.number at.0 at.1) refl))))

  hit_exclusive : (i b p : ℕ) (s t : NamedSegment) → IsPair segments p s t → starts_early grace t s ≡ true → starts_early grace s t ≡ true → (126 + p / 16 ≡ i) × (4 * (p % 16) + 2 ≡ b) → hits grace s t i b ≡ true
  hit_exclusive i b p s t pair e f at = or_left _ _ (or_right _ _ (and_from (starts_early grace t s && starts_early grace s t) (is_at (Exclusive s.name t.name) i b) (and_from (starts_early grace t s) (starts_early grace s t) e f)
      (at_from (Exclusive s.name t.name) i b _ (exclusive_at s.name t.name p i b pair.rises pair.number at.0 at.1) refl)))

  hit_apart : (i b p : ℕ) (s t : NamedSegment) → IsPair segments p s t → (126 + p / 16 ≡ i) × (4 * (p % 16) + 3 ≡ b) → hits grace s t i b ≡ true
  hit_apart i b p s t pair at = or_right _ _ (at_from (Apart s.name t.name) i b _ (apart_at s.name t.name p i b pair.rises pair.number at.0 at.1) refl)

  -- ---- from a bit of the tables to a pair
  abbrev f : ℕ → ℕ
  f i = slice_index forward_words (i - 126)

  abbrev g : ℕ → ℕ
  g i = slice_index backward_words (i - 126)

  from_forward : (i b : ℕ) → 126 ≤ i → b < 64 → (bit_at (f i) b == 1) ≡ true → all_hits grace segments (length segments) i b ≡ true
  from_forward i b h l is =
      let p : ℕ = 16 * (i - 126) + b / 4 in
      let a = to_pair p (b % 4) (omega arith) (mark_bit forward_words (i - 126) b l ∙ is) in
      ⊎_elim
      (λ (e : b % 4 ≡ 3). cleared i b a.0 a.1 p a.2 (hit_apart i b p a.0 a.1 a.2 (spot i b 3 h l (omega arith) e)))
      (λ (e : (b % 4 ≡ 0) × (starts_early grace a.1 a.0 ≡ true)). cleared i b a.0 a.1 p a.2 (hit_forward i b p a.0 a.1 a.2 e.1 (spot i b 0 h l (omega arith) e.0)))
      a.3

  moved : (i b k kind : ℕ) → 126 ≤ i → b < 64 → k ≤ b → k < 4 → kind ≡ k → (b - k) % 4 ≡ 0 → (126 + (16 * (i - 126) + (b - k) / 4) / 16 ≡ i) × (4 * ((16 * (i - 126) + (b - k) / 4) % 16) + kind ≡ b)
  moved i b k kind h l m n e z = (omega arith, omega arith)

  from_backward : (i b : ℕ) → 126 ≤ i → b < 64 → 1 ≤ b → (bit_at (g i) (b - 1) == 1) ≡ true → all_hits grace segments (length segments) i b ≡ true
  from_backward i b h l m is =
      let p : ℕ = 16 * (i - 126) + (b - 1) / 4 in
      let a = to_back p ((b - 1) % 4) (omega arith) (mark_bit backward_words (i - 126) (b - 1) (omega arith) ∙ is) in
      cleared i b a.0 a.1 p a.2 (hit_backward i b p a.0 a.1 a.2 a.4 (moved i b 1 1 h l m (omega arith) refl a.3))

  from_both : (i b : ℕ) → 126 ≤ i → b < 64 → 2 ≤ b → (bit_at (f i) (b - 2) == 1) ≡ true → (bit_at (g i) (b - 2) == 1) ≡ true → all_hits grace segments (length segments) i b ≡ true
  from_both i b h l m is also =
      let p : ℕ = 16 * (i - 126) + (b - 2) / 4 in
      let a = to_back p ((b - 2) % 4) (omega arith) (mark_bit backward_words (i - 126) (b - 2) (omega arith) ∙ also) in
      let c = to_pair p ((b - 2) % 4) (omega arith) (mark_bit forward_words (i - 126) (b - 2) (omega arith) ∙ is) in
      let same = same_pair follow segments rise p c.0 c.1 a.0 a.1 c.2 a.2 in
      let back : starts_early grace c.0 c.1 ≡ true = subst (λ (v : NamedSegment). starts_early grace c.0 v ≡ true) (sym same.1) (subst (λ (v : NamedSegment). starts_early grace v a.1 ≡ true) (sym same.0) a.4) in
      ⊎_elim
      (λ (e : (b - 2) % 4 ≡ 3). absurd (let z = a.3 in omega arith))
      (λ (e : ((b - 2) % 4 ≡ 0) × (starts_early grace c.1 c.0 ≡ true)). cleared i b c.0 c.1 p c.2 (hit_exclusive i b p c.0 c.1 c.2 e.1 back (moved i b 2 2 h l m (omega arith) refl a.3)))
      c.3

  -- ---- from a pair to a bit of the tables
  forward_bit : (i b p kind : ℕ) → (126 + p / 16 ≡ i) → 4 * (p % 16) + kind ≡ b → kind < 4 → (words : List ℕ) → has_mark words p kind ≡ true → (bit_at (slice_index words (i - 126)) b == 1) ≡ true
  forward_bit i b p kind w e l words h = let at : p / 16 ≡ i - 126 = omega arith in (λ j. bit_at (slice_index words (sym at j)) (sym e j) == 1) ∙ h

  shows : (i b : ℕ) → 126 ≤ i → (bit_at (kinds_word (f i) (g i)) b == 1) ≡ true → table_clears forward_words backward_words i b ≡ true
  shows i b h is = and_from (nat_le 126 i) (bit_at (kinds_word (f i) (g i)) b == 1) (le-leb 126 i h) is

  to_table : (i b p : ℕ) (s t : NamedSegment) → IsPair segments p s t → hits grace s t i b ≡ true → table_clears forward_words backward_words i b ≡ true
  to_table i b p s t pair hit = ⊎_elim
      (λ (o : ((starts_early grace t s && is_at (Before s.name t.name) i b) || (starts_early grace s t && is_at (Before t.name s.name) i b)) || ((starts_early grace t s && starts_early grace s t) && is_at (Exclusive s.name t.name) i b) ≡ true).
      ⊎_elim
      (λ (q : (starts_early grace t s && is_at (Before s.name t.name) i b) || (starts_early grace s t && is_at (Before t.name s.name) i b) ≡ true).
      ⊎_elim
      (λ (r : (starts_early grace t s && is_at (Before s.name t.name) i b) ≡ true).
      let d = and_parts (starts_early grace t s) (is_at (Before s.name t.name) i b) r in
      let at = at_forward s.name t.name p i b pair.rises pair.number (at_means (Before s.name t.name) i b d.1) in
      let w = at.0 in let e = at.1 in
      shows i b (omega arith) (kind_bits (f i) (g i) b ∙ or_left _ _ (or_left _ _ (forward_bit i b p 0 w e (omega arith) forward_words (is_forward p s t pair d.0)))))
      (λ (r : (starts_early grace s t && is_at (Before t.name s.name) i b) ≡ true).
      let d = and_parts (starts_early grace s t) (is_at (Before t.name s.name) i b) r in
      let at = at_backward s.name t.name p i b pair.rises pair.number (at_means (Before t.name s.name) i b d.1) in
      let w = at.0 in let e = at.1 in
      shows i b (omega arith) (kind_bits (f i) (g i) b ∙ or_left _ _ (or_right _ _ (moved_one (g i) b (omega arith) (omega arith) ∙ forward_bit i (b - 1) p 0 w (omega arith) (omega arith) backward_words (is_backward p s t pair d.0)))))
      (or_cases _ _ q))
      (λ (q : ((starts_early grace t s && starts_early grace s t) && is_at (Exclusive s.name t.name) i b) ≡ true).
      let d = and_parts (starts_early grace t s && starts_early grace s t) (is_at (Exclusive s.name t.name) i b) q in
      let u = and_parts (starts_early grace t s) (starts_early grace s t) d.0 in
      let at = at_exclusive s.name t.name p i b pair.rises pair.number (at_means (Exclusive s.name t.name) i b d.1) in
      let w = at.0 in let e = at.1 in
      shows i b (omega arith) (kind_bits (f i) (g i) b ∙ or_right _ _ (moved_two (f i) (g i) b (omega arith) (omega arith)
      ∙ and_from (bit_at (f i) (b - 2) == 1) (bit_at (g i) (b - 2) == 1)
      (forward_bit i (b - 2) p 0 w (omega arith) (omega arith) forward_words (is_forward p s t pair u.0))
      (forward_bit i (b - 2) p 0 w (omega arith) (omega arith) backward_words (is_backward p s t pair u.1)))))
      (or_cases _ _ o))
      (λ (o : is_at (Apart s.name t.name) i b ≡ true).
      let at = at_apart s.name t.name p i b pair.rises pair.number (at_means (Apart s.name t.name) i b o) in
      let w = at.0 in let e = at.1 in
      shows i b (omega arith) (kind_bits (f i) (g i) b ∙ or_left _ _ (or_left _ _ (forward_bit i b p 3 w e (omega arith) forward_words (is_there p s t pair)))))
      (or_cases _ _ hit)

  -- a word has no bit beyond 63
  in_word : (i b : ℕ) → (bit_at (kinds_word (f i) (g i)) b == 1) ≡ true → b < 64
  in_word i b is = ⊎_elim
      (λ (l : b < 64). l)
      (λ (l : 64 ≤ b). absurd (false≢true (sym (kind_bits (f i) (g i) b ∙ (λ j. (beyond (f i) b (narrow (i - 126)) l j || beyond (g i * 2 ^ 1 % 2 ^ 64) b (mod-lt (g i * 2 ^ 1) (omega arith)) l j) || beyond (bit_and (f i) (g i) * 2 ^ 2 % 2 ^ 64) b (mod-lt (bit_and (f i) (g i) * 2 ^ 2) (omega arith)) l j)) ∙ is)))
      (cases_lt b 64)
    where
      beyond : (x b : ℕ) → x < 2 ^ 64 → 64 ≤ b → (bit_at x b == 1) ≡ false
      beyond x b h l = ap (λ (n : ℕ). n == 1) (bit_at_above x 64 b h l)

  pub tables_clear : (i b : ℕ) → table_clears forward_words backward_words i b ≡ all_hits grace segments (length segments) i b
  tables_clear i b = by_truth (table_clears forward_words backward_words i b) (all_hits grace segments (length segments) i b)
      (λ h.
      let q = and_parts (nat_le 126 i) (bit_at (kinds_word (f i) (g i)) b == 1) h in
      let above = leb-true 126 i q.0 in
      let l = in_word i b q.1 in
      ⊎_elim
      (λ (o : ((bit_at (f i) b == 1) || (bit_at (g i * 2 ^ 1 % 2 ^ 64) b == 1)) ≡ true).
      ⊎_elim
      (λ (r : (bit_at (f i) b == 1) ≡ true). from_forward i b above l r)
      (λ (r : (bit_at (g i * 2 ^ 1 % 2 ^ 64) b == 1) ≡ true). ⊎_elim
      (λ (z : b < 1). absurd (false≢true (sym (not_moved (g i) 1 b l z) ∙ r)))
      (λ (z : 1 ≤ b). from_backward i b above l z (sym (moved_one (g i) b l z) ∙ r))
      (cases_lt b 1))
      (or_cases _ _ o))
      (λ (o : (bit_at (bit_and (f i) (g i) * 2 ^ 2 % 2 ^ 64) b == 1) ≡ true). ⊎_elim
      (λ (z : b < 2). absurd (false≢true (sym (not_moved (bit_and (f i) (g i)) 2 b l z) ∙ o)))
      (λ (z : 2 ≤ b). let u = and_parts (bit_at (f i) (b - 2) == 1) (bit_at (g i) (b - 2) == 1) (sym (moved_two (f i) (g i) b l z) ∙ o) in from_both i b above l z u.0 u.1)
      (cases_lt b 2))
      (or_cases _ _ (sym (kind_bits (f i) (g i) b) ∙ q.1)))
      (λ h. let p = cleared_pair segments rise grace i b h in
      to_table i b (pairs_below p.1.name + p.0.name) p.0 p.1 (record { lesser = p.2; greater = p.3; rises = p.4; number = refl }) p.5)

narrow : (words : List ℕ) → AreWords words → (k : ℕ) → slice_index words k < 2 ^ 64
narrow words bound k = ⊎_elim
    (λ (h : k < length words). bound k h)
    (λ (h : length words ≤ k). let past : slice_index words k ≡ 0 = get_or-eq_default words 0 h in omega arith)
    (cases_lt k (length words))

-- the tables of segments that are sorted by name, from the same segments in four other orders
pub words_clear : PairsFollow → (grace : ℕ) (segments starts ends starts_down ends_down : List NamedSegment) (forward_words backward_words : List ℕ) → NamesRise segments
    → IsPermutation segments starts → IsPermutation segments ends → IsPermutation segments starts_down → IsPermutation segments ends_down
    → AreWords forward_words
    → ((p c : ℕ) → c < 4 → has_mark forward_words p c ≡ list_any (λ t. forward_marks grace ends_down t p c) starts_down)
    → ((p c : ℕ) → c < 4 → has_mark backward_words p c ≡ list_any (λ t. backward_marks grace starts t p c) ends)
    → (i b : ℕ) → table_clears forward_words backward_words i b ≡ all_hits grace segments (length segments) i b
words_clear follow grace segments starts ends starts_down ends_down forward_words backward_words rise ps pe psd ped bound hf hb =
    let qs = IsPermutation-sym segments starts ps in
    let qe = IsPermutation-sym segments ends pe in
    let qsd = IsPermutation-sym segments starts_down psd in
    let qed = IsPermutation-sym segments ends_down ped in
    tables_clear follow grace segments rise forward_words backward_words (narrow forward_words bound)
    (λ p c l h. forward_pair grace segments starts_down ends_down qsd qed psd ped p c (sym (hf p c l) ∙ h))
    (λ p c l h. backward_pair grace segments ends starts qe qs pe ps p c (sym (hb p c l) ∙ h))
    (λ p s t pair. hf p 3 (omega arith) ∙ present grace segments starts_down ends_down qsd qed psd ped p s t pair)
    (λ p s t pair is. hf p 0 (omega arith) ∙ forward grace segments starts_down ends_down qsd qed psd ped p s t pair is)
    (λ p s t pair is. hb p 0 (omega arith) ∙ backward grace segments ends starts qe qs pe ps p s t pair is)

-- ---- the tables have room for all pairs
pub room : PairsFollow → (segments xs : List NamedSegment) (last : NamedSegment) → NamesRise segments → IsPermutation segments xs → Some last ≡ slice_get segments (length segments - 1)
    → All (λ (t : NamedSegment). pairs_below t.name + t.name ≤ 16 * (width_of (last.name + 1) - 126)) xs
room follow segments xs last rise perm is = All-permutation (λ (t : NamedSegment). pairs_below t.name + t.name ≤ 16 * (width_of (last.name + 1) - 126)) segments xs perm (λ k d h.
    let some = slice_get_within segments (length segments - 1) last (sym is) in
    let end : get_or segments (length segments - 1) d ≡ last = get_or_from_slice_get segments (length segments - 1) last d (sym is) in
    let name : (get_or segments (length segments - 1) d).name ≡ last.name = ap (λ (v : NamedSegment). v.name) end in
    let up : (get_or segments k d).name ≤ last.name = ⊎_elim
    (λ (e : k ≡ length segments - 1). let s : (get_or segments k d).name ≡ last.name = ap (λ (n : ℕ). (get_or segments n d).name) e ∙ name in omega arith)
    (λ (e : k ≡ length segments - 1 → ⊥). let r = rise k (length segments - 1) d (omega arith) (omega arith) in omega arith)
    (cases_eq k (length segments - 1)) in
    let f = follow (get_or segments k d).name (last.name + 1) (omega arith) in
    omega arith)

pub few : PairsFollow → (names : ℕ) → names ≤ 512 → width_of names - 126 ≤ 8176
few follow names h = ⊎_elim
    (λ (e : names ≡ 512). let s : pairs_below names ≡ 130816 = ap pairs_below e ∙ pairs_below-512 in omega arith)
    (λ (e : names ≡ 512 → ⊥). let s = slots_end follow names (omega arith) in omega arith)
    (cases_eq names 512)
