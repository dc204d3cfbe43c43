-- The marked names, collected by number and sorted by their texts.
use Rattle.std.proofs.Common.{◌≡◌, ◌≢◌, ℕ, ◌+◌, ◌<◌, ◌≤◌, Bool, true, false, eqb, List, [], ◌∷◌, ◌++◌, map, length, get_or, slice_get, Some, All, AllPairs, Contains, arith, refl, sym, ap, ◌∙◌, subst, ⊎_elim}
use Rattle.std.specs.Borrow.{Bor}
use Rattle.std.specs.Cmp.{IsTotalOrder}
use Rattle.std.specs.List.{IsDistinct}
use Rattle.std.specs.List.Sorted.{IsPermutation, IsSorted}
use Rattle.std.specs.Ordering.{nat_cmp, ordering_reverse, ordering_then, is_lt}
use Rattle.std.specs.declared.cmp.Ordering.{Ordering}
use Rattle.std.specs.declared.cmp.Ordering.TheVariants.{Less, Equal, Greater}
use Rattle.std.proofs.lemmas.Bool.{cases_lt, false≢true}
use Rattle.std.proofs.lemmas.Bool.Decides.{nat_tests}
use Rattle.std.proofs.lemmas.Cmp.{nat_cmp_total, then_total, on_total}
use Rattle.std.proofs.lemmas.List.{get_or_append_left, get_or_push, length_push, get_or-map, length-map}
use Rattle.std.proofs.lemmas.List.Elements.{All-nil, All-push, Contains-push, Contains-append_left, All-get_or}
use Rattle.std.proofs.lemmas.List.Sorted.{All-permutation, Contains-permutation, IsPermutation-map, IsPermutation-sym, sorted_far, ranks_by}
use Rattle.std.proofs.lemmas.Map.Keys.{IsDistinct-from_apart, IsDistinct-IsPermutation, apart_from_distinct}
use Rattle.std.proofs.lemmas.Option.{slice_get_within, get_or_from_slice_get}
use Rattle.trace_types.specs.Listing.{ListsExactly}
use Rattle.trace_types.specs.NameOrder.{name_cmp}
use Rattle.trace_types.specs.Segments.{SegmentName}
use Rattle.trace_types.proofs.ComparingLemmas.{name_exact}
use Rattle.trace_types.proofs.ListingLemmas.{name_total}
use Rattle.trace_paths.specs.NameOrders.{number_cmp}

-- a name and its number
abbrev pub Entry : Type 0
Entry = Bor SegmentName × ℕ

abbrev pub number_in : Entry → ℕ
number_in e = e.1

-- an entry of a marked name
abbrev pub IsEntry : List SegmentName → List Bool → Entry → Type 0
IsEntry known marked e = (slice_get known e.1 ≡ Some e.0.now) × (slice_get marked e.1 ≡ Some true)

-- the entries of the marked names below n, by number
pub record AreEntries (known : List SegmentName) (marked : List Bool) (n : ℕ) (entries : List Entry) : Type 0 where
  pub right : All (IsEntry known marked) entries
  pub below : All (λ (e : Entry). e.1 < n) entries
  pub apart : AllPairs (λ (a b : Entry). a.1 < b.1) entries
  pub all : (k : ℕ) → k < n → slice_get marked k ≡ Some true → Contains (map number_in entries) k

pub no_entries : (known : List SegmentName) (marked : List Bool) (entries : List Entry) → entries ≡ [] → AreEntries known marked 0 entries
no_entries known marked entries none = subst (AreEntries known marked 0) (sym none) (record {
  right = All-nil (IsEntry known marked);
  below = All-nil (λ (e : Entry). e.1 < 0);
  apart = λ i j d lt within. absurd (omega arith);
  all = λ k lt. absurd (omega arith);
})

pub entries_push : (known : List SegmentName) (marked : List Bool) (n : ℕ) (entries : List Entry) (e : Entry) → AreEntries known marked n entries → IsEntry known marked e → e.1 ≡ n → AreEntries known marked (n + 1) (entries ++ e ∷ [])
entries_push known marked n entries e a is at = record {
  right = All-push (IsEntry known marked) entries e a.right is;
  below = All-push (λ (x : Entry). x.1 < n + 1) entries e (λ k d lt. let l = a.below k d lt in omega arith) (omega arith);
  apart = λ i j d lt within. ⊎_elim
      (λ (inside : j < length entries). subst (λ (x : Entry). x.1 < (get_or (entries ++ e ∷ []) j d).1) (sym (get_or_append_left entries (e ∷ []) d i (omega arith)))
      (subst (λ (y : Entry). (get_or entries i d).1 < y.1) (sym (get_or_append_left entries (e ∷ []) d j inside)) (a.apart i j d lt inside)))
      (λ (last : length entries ≤ j).
      let size = length_push entries e in
      let here : length entries ≡ j = omega arith in
      let low = a.below i d (omega arith) in
      subst (λ (x : Entry). x.1 < (get_or (entries ++ e ∷ []) j d).1) (sym (get_or_append_left entries (e ∷ []) d i (omega arith)))
      (subst (λ (y : Entry). (get_or entries i d).1 < y.1) (sym (get_or_push entries e d j here)) (omega arith)))
      (cases_lt j (length entries));
  all = λ k lt mark. ⊎_elim
      (λ (low : k < n). subst (λ (l : List ℕ). Contains l k) (sym (mapped entries)) (Contains-append_left (map number_in entries) (e.1 ∷ []) k (a.all k low mark)))
      (λ (high : n ≤ k). let same : e.1 ≡ k = omega arith in subst (λ (l : List ℕ). Contains l k) (sym (mapped entries)) (subst (λ (m : ℕ). Contains (map number_in entries ++ m ∷ []) k) (sym same) (Contains-push (map number_in entries) k)))
      (cases_lt k n);
}
  where
    mapped : (xs : List Entry) → map number_in (xs ++ e ∷ []) ≡ map number_in xs ++ e.1 ∷ []
    mapped [] = refl
    mapped (x ∷ xs) = ap (λ l. x.1 ∷ l) (mapped xs)

pub entries_skip : (known : List SegmentName) (marked : List Bool) (n : ℕ) (entries : List Entry) → AreEntries known marked n entries → (slice_get marked n ≡ Some true → ⊥) → AreEntries known marked (n + 1) entries
entries_skip known marked n entries a not = record {
  right = a.right;
  below = λ k d lt. let l = a.below k d lt in omega arith;
  apart = a.apart;
  all = λ k lt mark. ⊎_elim
      (λ (low : k < n). a.all k low mark)
      (λ (high : n ≤ k). let same : k ≡ n = omega arith in absurd (not (subst (λ (m : ℕ). slice_get marked m ≡ Some true) same mark)))
      (cases_lt k n);
}

-- the order of entries: by the name, and then by the number
abbrev pub entry_cmp : Entry → Entry → Ordering
entry_cmp a b = ordering_then (name_cmp a.0.now b.0.now) (nat_cmp a.1 b.1)

entry_total : IsTotalOrder entry_cmp
entry_total = then_total (on_total (λ (e : Entry). e.0.now) name_total) (on_total (λ (e : Entry). e.1) nat_cmp_total)

-- of two different names the one that is not greater is less
name_rises : (x y : SegmentName) (q : Ordering) → x ≢ y → is_lt (ordering_then (name_cmp y x) q) ≡ false → name_cmp x y ≡ Less
name_rises x y q differ h = name_total.antisymm x y ∙ go (name_cmp y x) refl h
  where
    go : (o : Ordering) → name_cmp y x ≡ o → is_lt (ordering_then o q) ≡ false → ordering_reverse o ≡ Less
    go Less e h = absurd (false≢true (sym h))
    go Equal e h = absurd (differ (sym (name_exact y x e)))
    go Greater e h = refl

number_flips : (x y : Entry) → eqb x.1 y.1 ≡ eqb y.1 x.1
number_flips x y = grind (arith, nat_tests)

pub entries_done : (known : List SegmentName) (marked : List Bool) (n : ℕ) (entries sorted : List Entry) (numbers : List ℕ) → AllPairs (λ (a b : SegmentName). a ≢ b) known → length marked ≤ n → AreEntries known marked n entries → IsPermutation entries sorted → IsSorted entry_cmp sorted → numbers ≡ map number_in sorted → ListsExactly (number_cmp known) (λ k. slice_get marked k ≡ Some true) numbers
entries_done known marked n entries sorted numbers differ few a moved up is = subst (ListsExactly (number_cmp known) (λ k. slice_get marked k ≡ Some true)) (sym is) (record {
  rising = λ i j d lt within.
      let size = length-map sorted number_in in
      let no : Entry = get_or sorted i (get_or sorted j (record { ref_ptr = (0, 0); now = ([], [], []) }, d)) in
      let x = get_or sorted i no in
      let y = get_or sorted j no in
      let xs : get_or (map number_in sorted) i d ≡ x.1 = get_or-map number_in sorted i no d (omega arith) in
      let ys : get_or (map number_in sorted) j d ≡ y.1 = get_or-map number_in sorted j no d (omega arith) in
      let ex = All-get_or (IsEntry known marked) sorted i no (omega arith) right in
      let ey = All-get_or (IsEntry known marked) sorted j no (omega arith) right in
      let far = sorted_far (λ (p q : Entry). is_lt (entry_cmp p q)) (ranks_by entry_total (λ (e : Entry). e)) sorted up i j no (omega arith) (omega arith) in
      let two = apart_from_distinct (λ (p q : Entry). eqb p.1 q.1) sorted i j no distinct lt (omega arith) in
      let less = name_rises x.0.now y.0.now (nat_cmp y.1 x.1) (names_two x y ex ey two) far in
      rw (xs, ys, get_or_from_slice_get known x.1 x.0.now ([], [], []) ex.0, get_or_from_slice_get known y.1 y.0.now ([], [], []) ey.0) less;
  exactly = λ k. (
    (λ has. marked_one k (Contains-permutation (map number_in sorted) (map number_in entries) k (IsPermutation-sym (map number_in entries) (map number_in sorted) maps) has)),
    (λ mark. Contains-permutation (map number_in entries) (map number_in sorted) k maps (a.all k (let l = slice_get_within marked k true mark in omega arith) mark)),
  );
})
  where
    right : All (IsEntry known marked) sorted
    right = All-permutation (IsEntry known marked) entries sorted moved a.right

    maps : IsPermutation (map number_in entries) (map number_in sorted)
    maps = IsPermutation-map number_in entries sorted moved

    distinct : IsDistinct (λ (p q : Entry). eqb p.1 q.1) sorted
    distinct = IsDistinct-IsPermutation (λ (p q : Entry). eqb p.1 q.1) number_flips entries sorted moved
        (IsDistinct-from_apart (λ (p q : Entry). eqb p.1 q.1) entries (λ i j d lt within. let l = a.apart i j d lt within in grind (arith, nat_tests)))

    names_two : (x y : Entry) → IsEntry known marked x → IsEntry known marked y → eqb x.1 y.1 ≡ false → x.0.now ≢ y.0.now
    names_two x y ex ey two same = ⊎_elim
        (λ (l : x.1 < y.1). differ x.1 y.1 x.0.now l (slice_get_within known y.1 y.0.now ey.0)
        (get_or_from_slice_get known x.1 x.0.now x.0.now ex.0 ∙ (same ∙ sym (get_or_from_slice_get known y.1 y.0.now x.0.now ey.0))))
        (λ (ge : y.1 ≤ x.1). let l : y.1 < x.1 = grind (arith, nat_tests) in differ y.1 x.1 y.0.now l (slice_get_within known x.1 x.0.now ex.0)
        (get_or_from_slice_get known y.1 y.0.now y.0.now ey.0 ∙ (sym same ∙ sym (get_or_from_slice_get known x.1 x.0.now y.0.now ex.0))))
        (cases_lt x.1 y.1)

    marked_one : (k : ℕ) → Contains (map number_in entries) k → slice_get marked k ≡ Some true
    marked_one k (i, lt, e) =
        let size = length-map entries number_in in
        let no : Entry = get_or entries i (record { ref_ptr = (0, 0); now = ([], [], []) }, k) in
        let one = All-get_or (IsEntry known marked) entries i no (omega arith) a.right in
        subst (λ (m : ℕ). slice_get marked m ≡ Some true) (sym (get_or-map number_in entries i no k (omega arith)) ∙ e) one.1
