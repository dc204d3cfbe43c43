-- How many rows are told, and which places they have.
use Rattle.std.proofs.Common.{◌≡◌, ℕ, zero, suc, ◌+◌, ◌*◌, ◌^◌, ◌<◌, ◌≤◌, Bool, true, false, not, cond, List, [], ◌∷◌, ◌++◌, length, get_or, filter, flat_map, zip, All, sym, ap, ◌∙◌, subst, arith, append-nil, map-id, length-append}
use Rattle.std.specs.List.{range_with_len}
use Rattle.std.proofs.lemmas.List.{length-map}
use Rattle.std.proofs.lemmas.List.Concat.{flat_map-append}
use Rattle.std.proofs.lemmas.List.Elements.{All-append}
use Rattle.std.proofs.lemmas.List.FromFn.{map-range_with_len_more}
use Rattle.std.proofs.lemmas.Slice.Zip.{length-zip}
use Rattle.trace_types.proofs.ShortLemmas.{filter-short}
use Rattle.evidence_rules.specs.EvidenceRows.{AreReduced, Listing, rows_where}
use Rattle.evidence_rules.specs.declared.pair_row.PairRow.{PairRow}

range_more : (n : ℕ) → range_with_len 0 (n + 1) ≡ range_with_len 0 n ++ n ∷ []
range_more n = sym (map-id (range_with_len 0 (n + 1))) ∙ (map-range_with_len_more (λ (x : ℕ). x) 0 n n (omega arith) ∙ ap (λ (l : List ℕ). l ++ n ∷ []) (map-id (range_with_len 0 n)))

module _ {X : Type 0} where
  flat_more : (f : ℕ → List X) (n : ℕ) → flat_map f (range_with_len 0 (n + 1)) ≡ flat_map f (range_with_len 0 n) ++ f n
  flat_more f n = ap (flat_map f) (range_more n) ∙ (flat_map-append f (range_with_len 0 n) (n ∷ []) ∙ ap (λ (l : List X). flat_map f (range_with_len 0 n) ++ l) (append-nil (f n)))

  -- each number gives one at most, or 512
  few_ones : (f : ℕ → List X) → ((a : ℕ) → length (f a) ≤ 1) → (n : ℕ) → length (flat_map f (range_with_len 0 n)) ≤ n
  few_ones f each zero = omega arith
  few_ones f each (suc n) = let e : length (flat_map f (range_with_len 0 (n + 1))) ≡ length (flat_map f (range_with_len 0 n)) + length (f n) = ap length (flat_more f n) ∙ length-append (flat_map f (range_with_len 0 n)) (f n) in
      let so = few_ones f each n in let last = each n in let same : n + 1 ≡ suc n = omega arith in let all : length (flat_map f (range_with_len 0 (n + 1))) ≤ n + 1 = omega (arith, e, so, last) in subst (λ (k : ℕ). length (flat_map f (range_with_len 0 k)) ≤ k) same all

  few_many : (f : ℕ → List X) → ((a : ℕ) → length (f a) ≤ 512) → (n : ℕ) → length (flat_map f (range_with_len 0 n)) ≤ n * 512
  few_many f each zero = omega arith
  few_many f each (suc n) = let e : length (flat_map f (range_with_len 0 (n + 1))) ≡ length (flat_map f (range_with_len 0 n)) + length (f n) = ap length (flat_more f n) ∙ length-append (flat_map f (range_with_len 0 n)) (f n) in
      let so = few_many f each n in let last = each n in let same : n + 1 ≡ suc n = omega arith in let all : length (flat_map f (range_with_len 0 (n + 1))) ≤ (n + 1) * 512 = omega (arith, e, so, last) in subst (λ (k : ℕ). length (flat_map f (range_with_len 0 k)) ≤ k * 512) same all

  -- what holds of all that each number below gives holds of all
  pub all_flat : (P : X → Type 0) (f : ℕ → List X) (n : ℕ) → ((a : ℕ) → a < n → All P (f a)) → All P (flat_map f (range_with_len 0 n))
  all_flat P f zero each = λ k d l. absurd (omega (arith, l))
  all_flat P f (suc n) each = let same : n + 1 ≡ suc n = omega arith in subst (λ (k : ℕ). All P (flat_map f (range_with_len 0 k))) same
      (subst (All P) (sym (flat_more f n)) (All-append P (flat_map f (range_with_len 0 n)) (f n) (all_flat P f n (λ a l. each a (omega (arith, l)))) (each n (omega arith))))

  short_cond : (b : Bool) (x : X) → length (cond b (x ∷ []) []) ≤ 1
  short_cond true x = omega arith
  short_cond false x = omega arith

  all_one : (P : X → Type 0) (x : X) → P x → (k : ℕ) (d : X) → k < length (x ∷ []) → P (get_or (x ∷ []) k d)
  all_one P x p zero d l = p
  all_one P x p (suc k) d l = absurd (omega (arith, l))

  all_cond : (P : X → Type 0) (b : Bool) (x : X) → P x → All P (cond b (x ∷ []) [])
  all_cond P true x p = all_one P x p
  all_cond P false x p = λ k d l. absurd (omega (arith, l))

module _ {F : Type 0} (figures : ℕ → ℕ → F) (is : Listing F) (count : ℕ) where
  abbrev one : ℕ → ℕ → List (PairRow F)
  one a b = cond (is a b (figures a b)) (record { first = a; second = b; figures = figures a b } ∷ []) []

  -- there are few rows
  pub rows_few : count ≤ 512 → length (rows_where figures is count) < 2 ^ 32
  rows_few few = let each = λ (a : ℕ). let ones = few_ones (one a) (λ b. short_cond (is a b (figures a b)) (record { first = a; second = b; figures = figures a b })) count in (let l : length (flat_map (one a) (range_with_len 0 count)) ≤ 512 = omega (arith, ones, few) in l) in
      let all = few_many (λ a. flat_map (one a) (range_with_len 0 count)) each count in omega (arith, all, few)

  -- their places are below the count
  pub rows_below : All (λ (row : PairRow F). (row.first < count) × (row.second < count)) (rows_where figures is count)
  rows_below = all_flat (λ (row : PairRow F). (row.first < count) × (row.second < count)) (λ a. flat_map (one a) (range_with_len 0 count)) count
      (λ a la. all_flat (λ (row : PairRow F). (row.first < count) × (row.second < count)) (one a) count
      (λ b lb. all_cond (λ (row : PairRow F). (row.first < count) × (row.second < count)) (is a b (figures a b)) (record { first = a; second = b; figures = figures a b }) (la, lb)))

-- no more are left than there were
pub reduced_few : {F : Type 0} (rows left : List (PairRow F)) → AreReduced rows left → length left ≤ length rows
reduced_few {F} rows left is =
    let kept = filter (λ (x : PairRow F × Bool). not x.1) (zip rows is.implied) in
    let a = ap length is.are in
    let b = length-map kept (λ (x : PairRow F × Bool). x.0) in
    let c = filter-short (λ (x : PairRow F × Bool). not x.1) (zip rows is.implied) in
    let d = length-zip rows is.implied in
    omega (arith, a, b, c, d)
