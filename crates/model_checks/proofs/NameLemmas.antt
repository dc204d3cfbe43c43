-- Names and their order.
use Rattle.std.proofs.Common.{◌≡◌, ◌≢◌, ◌↔◌, ℕ, ◌≤◌, Bool, true, false, not, ◌&&◌, Some, List, [], length, get_or, map, refl, sym, ap, ◌∙◌, inr, ⊎_elim, arith, IsPermutation, IsSorted, Ordering}
use Rattle.std.specs.declared.cmp.Ordering.TheVariants.{Less, Equal, Greater}
use Rattle.std.specs.Cmp.Lexicographic.{slice_cmp}
use Rattle.std.specs.List.{Contains, AllPairs}
use Rattle.std.specs.Ordering.{nat_cmp, ordering_then, partial_ordering_then, is_lt, is_some_and}
use Rattle.std.specs.Str.{bytes_eq}
use Rattle.std.proofs.lemmas.Bool.{false≢true, both_ways, and_parts, and_from, not-true, not_from_false, false_from_ne_true}
use Rattle.std.proofs.lemmas.List.{length-map}
use Rattle.std.proofs.lemmas.List.Sorted.{Contains-permutation, IsPermutation-sym}
use Rattle.std.proofs.lemmas.Slice.Eq.{bytes_eq-Decides}
use Rattle.trace_types.specs.declared.segment.Segment.{Segment}
use Rattle.trace_types.specs.Listing.{ListsExactly, CountsDistinct}
use Rattle.trace_types.specs.NameOrder.{name_cmp}
use Rattle.trace_types.specs.Segments.{SegmentName, name_of, task_of}
use Rattle.trace_types.proofs.ComparingLemmas.{name_exact, less_differs}
use Rattle.trace_types.proofs.ListingLemmas.{name_total, Contains-nil}
use Rattle.trace_types.proofs.ElementLemmas.{Contains-map, from_map}
use Rattle.trace_types.proofs.PairLemmas.{AllPairs-nil}
use Rattle.model_checks.specs.inner.Growing.{AddsDistinct}
use Rattle.model_checks.proofs.OrderLemmas.{rising_from_sort}

-- the task of a name
abbrev pub task_in : SegmentName → List ℕ
task_in name = name.0

-- `!=` and `<` at names
pub told_apart : (a b : SegmentName) (r : Bool) → r ≡ not (bytes_eq a.0 b.0 && (bytes_eq a.1 b.1 && bytes_eq a.2 b.2)) → (r ≡ true) ↔ (a ≢ b)
told_apart a b r e = (
  (λ h same.
      let all : bytes_eq a.0 b.0 && (bytes_eq a.1 b.1 && bytes_eq a.2 b.2) ≡ false = not-true (bytes_eq a.0 b.0 && (bytes_eq a.1 b.1 && bytes_eq a.2 b.2)) (sym e ∙ h) in
      both_ways (bytes_eq a.0 b.0 && (bytes_eq a.1 b.1 && bytes_eq a.2 b.2)) all
      (and_from (bytes_eq a.0 b.0) (bytes_eq a.1 b.1 && bytes_eq a.2 b.2) ((bytes_eq-Decides a.0 b.0).1 (ap (λ (n : SegmentName). n.0) same))
      (and_from (bytes_eq a.1 b.1) (bytes_eq a.2 b.2) ((bytes_eq-Decides a.1 b.1).1 (ap (λ (n : SegmentName). n.1) same)) ((bytes_eq-Decides a.2 b.2).1 (ap (λ (n : SegmentName). n.2) same))))),
  (λ differ. e ∙ not_from_false (bytes_eq a.0 b.0 && (bytes_eq a.1 b.1 && bytes_eq a.2 b.2)) (false_from_ne_true (bytes_eq a.0 b.0 && (bytes_eq a.1 b.1 && bytes_eq a.2 b.2)) (λ h.
      let t = and_parts (bytes_eq a.0 b.0) (bytes_eq a.1 b.1 && bytes_eq a.2 b.2) h in
      let u = and_parts (bytes_eq a.1 b.1) (bytes_eq a.2 b.2) t.1 in
      let ts : a.0 ≡ b.0 = (bytes_eq-Decides a.0 b.0).0 t.0 in
      let ss : a.1 ≡ b.1 = (bytes_eq-Decides a.1 b.1).0 u.0 in
      let es : a.2 ≡ b.2 = (bytes_eq-Decides a.2 b.2).0 u.1 in
      differ (λ k. (ts k, ss k, es k))))),
)

less_test : (o p q : Ordering) → is_some_and is_lt (partial_ordering_then (Some o) (partial_ordering_then (Some p) (Some q))) ≡ is_lt (ordering_then o (ordering_then p q))
less_test Less p q = refl
less_test Greater p q = refl
less_test Equal Less q = refl
less_test Equal Greater q = refl
less_test Equal Equal q = refl

less_told : (o : Ordering) → (is_lt o ≡ true) ↔ (o ≡ Less)
less_told Less = ((λ h. refl), (λ h. refl))
less_told Equal = ((λ h. absurd (false≢true h)), (λ h. ap is_lt h))
less_told Greater = ((λ h. absurd (false≢true h)), (λ h. ap is_lt h))

pub told_less : (a b : SegmentName) (r : Bool) → r ≡ is_some_and is_lt (partial_ordering_then (Some (slice_cmp nat_cmp a.0 b.0)) (partial_ordering_then (Some (slice_cmp nat_cmp a.1 b.1)) (Some (slice_cmp nat_cmp a.2 b.2)))) → (r ≡ true) ↔ (name_cmp a b ≡ Less)
told_less a b r e =
    let same = e ∙ less_test (slice_cmp nat_cmp a.0 b.0) (slice_cmp nat_cmp a.1 b.1) (slice_cmp nat_cmp a.2 b.2) in
    let told = less_told (name_cmp a b) in
    ((λ h. told.0 (sym same ∙ h)), (λ h. same ∙ told.1 h))

names_apart : (names : List SegmentName) → AllPairs (λ (x y : SegmentName). name_cmp x y ≡ Less) names → AllPairs (λ (x y : SegmentName). x ≢ y) names
names_apart names rising i j d lt inside e = less_differs name_cmp name_total (get_or names i d) (get_or names j d) (rising i j d lt inside) e

-- what is left of the names after the sort
pub names_listed : (segments : List Segment) (names sorted : List SegmentName) → AddsDistinct (map name_of segments) [] names → IsPermutation names sorted → IsSorted name_cmp sorted → ListsExactly name_cmp (Contains (map name_of segments)) sorted
names_listed segments names sorted adds moved up =
    record {
      rising = rising_from_sort name_cmp name_total name_exact names sorted moved (adds.differ (AllPairs-nil (λ (x y : SegmentName). x ≢ y))) up;
      exactly = λ name. (
        (λ c. ⊎_elim (λ (d : Contains [] name). absurd (Contains-nil name d)) (λ (d : Contains (map name_of segments) name). d) ((adds.same name).0 (Contains-permutation sorted names name (IsPermutation-sym names sorted moved) c))),
        (λ c. Contains-permutation names sorted name moved ((adds.same name).1 (inr c))),
      );
    }

-- how many names there are
pub names_counted : (segments : List Segment) (names : List SegmentName) (n : ℕ) → ListsExactly name_cmp (Contains (map name_of segments)) names → length names ≡ n → CountsDistinct n (map name_of segments)
names_counted segments names n listed size = record { all = names; differ = names_apart names listed.rising; exactly = listed.exactly; count = size }

-- how many tasks there are
pub tasks_counted : (segments : List Segment) (names : List SegmentName) (tasks : List (List ℕ)) (n : ℕ) → ListsExactly name_cmp (Contains (map name_of segments)) names → AddsDistinct (map task_in names) [] tasks → length tasks ≡ n → CountsDistinct n (map task_of segments)
tasks_counted segments names tasks n listed adds size = record {
  all = tasks;
  differ = adds.differ (AllPairs-nil (λ (x y : List ℕ). x ≢ y));
  exactly = λ x. (
    (λ c. ⊎_elim (λ (d : Contains [] x). absurd (Contains-nil x d))
        (λ (d : Contains (map task_in names) x).
        let r = from_map task_in names x d in
        let q = from_map name_of segments r.0 ((listed.exactly r.0).0 r.1) in
        Contains-map task_of segments q.0 x q.1 (ap task_in q.2 ∙ r.2))
        ((adds.same x).0 c)),
    (λ c. let q = from_map task_of segments x c in
        (adds.same x).1 (inr (Contains-map task_in names (name_of q.0) x ((listed.exactly (name_of q.0)).1 (Contains-map name_of segments q.0 (name_of q.0) q.1 refl)) q.2))),
  );
  count = size;
}

pub tasks_few : (names : List SegmentName) (tasks : List (List ℕ)) → AddsDistinct (map task_in names) [] tasks → length tasks ≤ length names
tasks_few names tasks adds = let f = adds.few in omega (arith, length-map names task_in)
