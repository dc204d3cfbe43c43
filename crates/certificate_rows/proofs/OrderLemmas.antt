-- Texts with their numbers, collected by number and sorted by the texts.
use Rattle.std.proofs.Common.{◌≡◌, ◌≢◌, ℕ, ◌+◌, ◌<◌, ◌≤◌, false, eqb, List, [], ◌∷◌, ◌++◌, map, length, get_or, slice_get, Some, All, AllPairs, Contains, arith, refl, sym, ap, ◌∙◌, subst, ⊎_elim}
use Rattle.std.specs.Borrow.{Bor}
use Rattle.std.specs.Cmp.{IsTotalOrder}
use Rattle.std.specs.List.{IsDistinct}
use Rattle.std.specs.List.Sorted.{IsPermutation, IsSorted}
use Rattle.std.specs.Ordering.{nat_cmp, ordering_reverse, ordering_then, is_lt}
use Rattle.std.specs.declared.cmp.Ordering.{Ordering}
use Rattle.std.specs.declared.cmp.Ordering.TheVariants.{Less, Equal, Greater}
use Rattle.std.proofs.lemmas.Bool.{cases_lt, false≢true}
use Rattle.std.proofs.lemmas.Bool.Decides.{nat_tests}
use Rattle.std.proofs.lemmas.Cmp.{nat_cmp_total, then_total, on_total}
use Rattle.std.proofs.lemmas.List.{get_or_append_left, get_or_push, length_push, get_or-map, length-map}
use Rattle.std.proofs.lemmas.List.Elements.{All-nil, All-push, Contains-push, Contains-append_left, All-get_or}
use Rattle.std.proofs.lemmas.List.Sorted.{All-permutation, Contains-permutation, IsPermutation-map, IsPermutation-sym, length_permutation, sorted_far, ranks_by}
use Rattle.std.proofs.lemmas.Map.Keys.{IsDistinct-from_apart, IsDistinct-IsPermutation, apart_from_distinct}
use Rattle.std.proofs.lemmas.Option.{slice_get_within, get_or_from_slice_get}
use Rattle.trace_types.specs.Listing.{ListsExactly}

-- ---- the order of names and of texts
-- ---- entries
-- a text and its number
abbrev pub Entry : Type 0 → Type 0
Entry X = Bor X × ℕ

abbrev pub number_in : {X : Type 0} → Entry X → ℕ
number_in e = e.1

-- the text stands at this number
abbrev pub IsEntry : {X : Type 0} → List X → Entry X → Type 0
IsEntry texts e = slice_get texts e.1 ≡ Some e.0.now

-- the entries of the first n texts, by number
pub record AreEntries {X : Type 0} (texts : List X) (n : ℕ) (entries : List (Entry X)) : Type 0 where
  pub right : All (IsEntry texts) entries
  pub below : All (λ (e : Entry X). e.1 < n) entries
  pub apart : AllPairs (λ (a b : Entry X). a.1 < b.1) entries
  pub all : (k : ℕ) → k < n → Contains (map number_in entries) k
  pub size : length entries ≡ n

pub no_entries : {X : Type 0} (texts : List X) (entries : List (Entry X)) → entries ≡ [] → AreEntries texts 0 entries
no_entries {X} texts entries none = subst (AreEntries texts 0) (sym none) (record {
  right = All-nil (IsEntry texts);
  below = All-nil (λ (e : Entry X). e.1 < 0);
  apart = λ i j d lt within. absurd (omega arith);
  all = λ k lt. absurd (omega arith);
  size = refl;
})

pub entries_push : {X : Type 0} (texts : List X) (n : ℕ) (entries : List (Entry X)) (e : Entry X) → AreEntries texts n entries → IsEntry texts e → e.1 ≡ n → AreEntries texts (n + 1) (entries ++ e ∷ [])
entries_push {X} texts n entries e a is at = record {
  right = All-push (IsEntry texts) entries e a.right is;
  below = All-push (λ (x : Entry X). x.1 < n + 1) entries e (λ k d lt. let l = a.below k d lt in omega arith) (omega arith);
  apart = λ i j d lt within. ⊎_elim
      (λ (inside : j < length entries). subst (λ (x : Entry X). x.1 < (get_or (entries ++ e ∷ []) j d).1) (sym (get_or_append_left entries (e ∷ []) d i (omega arith)))
      (subst (λ (y : Entry X). (get_or entries i d).1 < y.1) (sym (get_or_append_left entries (e ∷ []) d j inside)) (a.apart i j d lt inside)))
      (λ (last : length entries ≤ j).
      let size = length_push entries e in
      let here : length entries ≡ j = omega arith in
      let low = a.below i d (omega arith) in
      subst (λ (x : Entry X). x.1 < (get_or (entries ++ e ∷ []) j d).1) (sym (get_or_append_left entries (e ∷ []) d i (omega arith)))
      (subst (λ (y : Entry X). (get_or entries i d).1 < y.1) (sym (get_or_push entries e d j here)) (omega arith)))
      (cases_lt j (length entries));
  all = λ k lt. ⊎_elim
      (λ (low : k < n). subst (λ (l : List ℕ). Contains l k) (sym (mapped entries)) (Contains-append_left (map number_in entries) (e.1 ∷ []) k (a.all k low)))
      (λ (high : n ≤ k). let same : e.1 ≡ k = omega arith in subst (λ (l : List ℕ). Contains l k) (sym (mapped entries)) (subst (λ (m : ℕ). Contains (map number_in entries ++ m ∷ []) k) (sym same) (Contains-push (map number_in entries) k)))
      (cases_lt k n);
  size = let size = length_push entries e in let so_far = a.size in omega arith;
}
  where
    mapped : (xs : List (Entry X)) → map number_in (xs ++ e ∷ []) ≡ map number_in xs ++ e.1 ∷ []
    mapped [] = refl
    mapped (x ∷ xs) = ap (λ l. x.1 ∷ l) (mapped xs)

number_flips : {X : Type 0} (x y : Entry X) → eqb x.1 y.1 ≡ eqb y.1 x.1
number_flips x y = grind (arith, nat_tests)

module _ {X : Type 0} (cmp : X → X → Ordering) (total : IsTotalOrder cmp) (exact : (x y : X) → cmp x y ≡ Equal → x ≡ y) where
  -- the order of entries: by the text, and then by the number
  abbrev pub entry_cmp : Entry X → Entry X → Ordering
  entry_cmp a b = ordering_then (cmp a.0.now b.0.now) (nat_cmp a.1 b.1)

  entry_total : IsTotalOrder entry_cmp
  entry_total = then_total (on_total (λ (e : Entry X). e.0.now) total) (on_total (λ (e : Entry X). e.1) nat_cmp_total)

  -- of two different texts the one that is not greater is less
  text_rises : (x y : X) (q : Ordering) → x ≢ y → is_lt (ordering_then (cmp y x) q) ≡ false → cmp x y ≡ Less
  text_rises x y q differ h = total.antisymm x y ∙ go (cmp y x) refl h
    where
      go : (o : Ordering) → cmp y x ≡ o → is_lt (ordering_then o q) ≡ false → ordering_reverse o ≡ Less
      go Less e h = absurd (false≢true (sym h))
      go Equal e h = absurd (differ (sym (exact y x e)))
      go Greater e h = refl

  module _ (texts : List X) (none : X) (n : ℕ) (entries sorted : List (Entry X)) (differ : AllPairs (λ (a b : X). a ≢ b) texts) (all : length texts ≡ n) (a : AreEntries texts n entries) (moved : IsPermutation entries sorted) (up : IsSorted entry_cmp sorted) where
    right : All (IsEntry texts) sorted
    right = All-permutation (IsEntry texts) entries sorted moved a.right

    maps : IsPermutation (map number_in entries) (map number_in sorted)
    maps = IsPermutation-map number_in entries sorted moved

    distinct : IsDistinct (λ (p q : Entry X). eqb p.1 q.1) sorted
    distinct = IsDistinct-IsPermutation (λ (p q : Entry X). eqb p.1 q.1) number_flips entries sorted moved
        (IsDistinct-from_apart (λ (p q : Entry X). eqb p.1 q.1) entries (λ i j d lt within. let l = a.apart i j d lt within in grind (arith, nat_tests)))

    texts_two : (x y : Entry X) → IsEntry texts x → IsEntry texts y → eqb x.1 y.1 ≡ false → x.0.now ≢ y.0.now
    texts_two x y ex ey two same = ⊎_elim
        (λ (l : x.1 < y.1). differ x.1 y.1 x.0.now l (slice_get_within texts y.1 y.0.now ey)
        (get_or_from_slice_get texts x.1 x.0.now x.0.now ex ∙ (same ∙ sym (get_or_from_slice_get texts y.1 y.0.now x.0.now ey))))
        (λ (ge : y.1 ≤ x.1). let l : y.1 < x.1 = grind (arith, nat_tests) in differ y.1 x.1 y.0.now l (slice_get_within texts x.1 x.0.now ex)
        (get_or_from_slice_get texts y.1 y.0.now y.0.now ey ∙ (sym same ∙ sym (get_or_from_slice_get texts x.1 x.0.now y.0.now ex))))
        (cases_lt x.1 y.1)

    number_within : (k : ℕ) → Contains (map number_in entries) k → k < length texts
    number_within k (i, lt, e) =
        let size = length-map entries number_in in
        let dflt : Entry X = (record { ref_ptr = (0, 0); now = none }, k) in
        let here : Entry X = get_or entries i dflt in
        let one = All-get_or (IsEntry texts) entries i dflt (omega arith) a.right in
        subst (λ (m : ℕ). m < length texts) (sym (get_or-map number_in entries i dflt k (omega arith)) ∙ e) (slice_get_within texts here.1 here.0.now one)

    pub entries_few : length (map number_in sorted) ≡ n
    entries_few = length-map sorted number_in ∙ (length_permutation entries sorted moved ∙ a.size)

    pub entries_done : ListsExactly (λ (k l : ℕ). cmp (get_or texts k none) (get_or texts l none)) (λ k. k < length texts) (map number_in sorted)
    entries_done = record {
      rising = λ i j d lt within.
          let size = length-map sorted number_in in
          let no : Entry X = get_or sorted i (get_or sorted j (record { ref_ptr = (0, 0); now = none }, d)) in
          let x = get_or sorted i no in
          let y = get_or sorted j no in
          let xs : get_or (map number_in sorted) i d ≡ x.1 = get_or-map number_in sorted i no d (omega arith) in
          let ys : get_or (map number_in sorted) j d ≡ y.1 = get_or-map number_in sorted j no d (omega arith) in
          let ex = All-get_or (IsEntry texts) sorted i no (omega arith) right in
          let ey = All-get_or (IsEntry texts) sorted j no (omega arith) right in
          let far = sorted_far (λ (p q : Entry X). is_lt (entry_cmp p q)) (ranks_by entry_total (λ (e : Entry X). e)) sorted up i j no (omega arith) (omega arith) in
          let two = apart_from_distinct (λ (p q : Entry X). eqb p.1 q.1) sorted i j no distinct lt (omega arith) in
          let less = text_rises x.0.now y.0.now (nat_cmp y.1 x.1) (texts_two x y ex ey two) far in
          rw (xs, ys, get_or_from_slice_get texts x.1 x.0.now none ex, get_or_from_slice_get texts y.1 y.0.now none ey) less;
      exactly = λ k. (
        (λ has. number_within k (Contains-permutation (map number_in sorted) (map number_in entries) k (IsPermutation-sym (map number_in entries) (map number_in sorted) maps) has)),
        (λ lt. Contains-permutation (map number_in entries) (map number_in sorted) k maps (a.all k (omega arith))),
      );
    }
