-- Supports with their places, as keys that are sorted.
use Rattle.std.proofs.Common.{◌≡◌, ◌≢◌, ◌⊎◌, ◌↔◌, ℕ, ◌+◌, ◌-◌, ◌<◌, ◌≤◌, false, eqb, List, [], ◌∷◌, ◌++◌, map, length, take, get_or, slice_get, Some, All, AllPairs, Contains, arith, refl, sym, ap, ◌∙◌, subst, ⊎_elim}
use Rattle.std.specs.Cmp.{IsTotalOrder}
use Rattle.std.specs.List.{IsDistinct}
use Rattle.std.specs.List.Sorted.{IsPermutation, IsSorted}
use Rattle.std.specs.Ordering.{nat_cmp, ordering_reverse, ordering_then, is_lt}
use Rattle.std.specs.declared.cmp.Ordering.{Ordering}
use Rattle.std.specs.declared.cmp.Ordering.TheVariants.{Less, Equal, Greater}
use Rattle.std.proofs.lemmas.Bool.{cases_lt, false≢true}
use Rattle.std.proofs.lemmas.Bool.Decides.{nat_tests}
use Rattle.std.proofs.lemmas.Cmp.{nat_cmp_total, then_total, on_total}
use Rattle.std.proofs.lemmas.List.{get_or_append_left, get_or_push, length_push, get_or-map, length-map, take_more, map-append}
use Rattle.std.proofs.lemmas.List.Elements.{All-nil, All-push, Contains-push, Contains-append_left, Contains-get_or, All-get_or}
use Rattle.std.proofs.lemmas.List.Sorted.{All-permutation, Contains-permutation, IsPermutation-map, IsPermutation-sym, length_permutation, sorted_far, ranks_by}
use Rattle.std.proofs.lemmas.Map.Keys.{IsDistinct-from_apart, IsDistinct-IsPermutation, apart_from_distinct}
use Rattle.std.proofs.lemmas.Option.{same_Some, slice_get_within, slice_get-get_or}
use Rattle.trace_types.specs.Listing.{ListsExactly}
use Rattle.evidence_rules.specs.EvidenceRows.{by_support}
use Rattle.support_order.specs.Orders.{IsOrder}

-- the greatest support
abbrev most : ℕ
most = 4294967295

-- a key is what its support lacks to the greatest, and the place
abbrev IsKey : List ℕ → ℕ × ℕ → Type 0
IsKey supports k = (k.0 ≤ most) × (slice_get supports k.1 ≡ Some (most - k.0))

pub record AreKeys (supports : List ℕ) (n : ℕ) (keys : List (ℕ × ℕ)) : Type 0 where
  pub right : All (IsKey supports) keys
  pub below : All (λ (k : ℕ × ℕ). k.1 < n) keys
  pub apart : AllPairs (λ (k l : ℕ × ℕ). k.1 < l.1) keys
  pub all : (i : ℕ) → i < n → Contains (map (λ (k : ℕ × ℕ). k.1) keys) i

pub keys_none : (supports : List ℕ) (keys : List (ℕ × ℕ)) → keys ≡ [] → AreKeys supports 0 keys
keys_none supports keys none = subst (AreKeys supports 0) (sym none) (record {
  right = All-nil (IsKey supports);
  below = All-nil (λ (k : ℕ × ℕ). k.1 < 0);
  apart = λ i j d lt within. absurd (omega arith);
  all = λ i lt. absurd (omega arith);
})

pub keys_push : (supports : List ℕ) (n s : ℕ) (keys : List (ℕ × ℕ)) → s ≤ most → slice_get supports n ≡ Some s → AreKeys supports n keys → AreKeys supports (n + 1) (keys ++ (most - s, n) ∷ [])
keys_push supports n s keys fits at a =
    let k : ℕ × ℕ = (most - s, n) in
    record {
      right = All-push (IsKey supports) keys k a.right (omega arith, subst (λ (x : ℕ). slice_get supports n ≡ Some x) (omega arith) at);
      below = All-push (λ (x : ℕ × ℕ). x.1 < n + 1) keys k (λ i d lt. let l = a.below i d lt in omega arith) (omega arith);
      apart = λ i j d lt within. ⊎_elim
          (λ (inside : j < length keys). subst (λ (x : ℕ × ℕ). x.1 < (get_or (keys ++ k ∷ []) j d).1) (sym (get_or_append_left keys (k ∷ []) d i (omega arith)))
          (subst (λ (y : ℕ × ℕ). (get_or keys i d).1 < y.1) (sym (get_or_append_left keys (k ∷ []) d j inside)) (a.apart i j d lt inside)))
          (λ (last : length keys ≤ j).
          let size = length_push keys k in
          let here : length keys ≡ j = omega arith in
          let low = a.below i d (omega arith) in
          subst (λ (x : ℕ × ℕ). x.1 < (get_or (keys ++ k ∷ []) j d).1) (sym (get_or_append_left keys (k ∷ []) d i (omega arith)))
          (subst (λ (y : ℕ × ℕ). (get_or keys i d).1 < y.1) (sym (get_or_push keys k d j here)) low))
          (cases_lt j (length keys));
      all = λ i lt. ⊎_elim
          (λ (low : i < n). subst (λ (l : List ℕ). Contains l i) (sym (map-append (λ (x : ℕ × ℕ). x.1) keys (k ∷ []))) (Contains-append_left (map (λ (x : ℕ × ℕ). x.1) keys) (n ∷ []) i (a.all i low)))
          (λ (high : n ≤ i). let same : n ≡ i = omega arith in subst (λ (l : List ℕ). Contains l i) (sym (map-append (λ (x : ℕ × ℕ). x.1) keys (k ∷ []))) (subst (λ (m : ℕ). Contains (map (λ (x : ℕ × ℕ). x.1) keys ++ n ∷ []) m) same (Contains-push (map (λ (x : ℕ × ℕ). x.1) keys) n)))
          (cases_lt i n);
    }

-- ---- sorted
abbrev key_cmp : ℕ × ℕ → ℕ × ℕ → Ordering
key_cmp k l = ordering_then (nat_cmp k.0 l.0) (nat_cmp k.1 l.1)

key_total : IsTotalOrder key_cmp
key_total = then_total (on_total (λ (k : ℕ × ℕ). k.0) nat_cmp_total) (on_total (λ (k : ℕ × ℕ). k.1) nat_cmp_total)

-- the support of a key, with its place
abbrev pub support_of : ℕ × ℕ → ℕ × ℕ
support_of k = (most - k.0, k.1)

-- of two keys with different places of which the second is not less, the first stands before
rises : (k l : ℕ × ℕ) → k.0 ≤ most → l.0 ≤ most → k.1 ≢ l.1 → is_lt (key_cmp l k) ≡ false → by_support (support_of k) (support_of l) ≡ Less
rises k l fk fl ne not_less = grind (arith, nat_tests)

flips : (x y : ℕ × ℕ) → eqb x.1 y.1 ≡ eqb y.1 x.1
flips x y = grind (arith, nat_tests)

module _ (supports : List ℕ) (n : ℕ) (keys sorted : List (ℕ × ℕ)) (all : length supports ≤ n) (a : AreKeys supports n keys) (moved : IsPermutation keys sorted) (up : IsSorted key_cmp sorted) where
  right : All (IsKey supports) sorted
  right = All-permutation (IsKey supports) keys sorted moved a.right

  distinct : IsDistinct (λ (p q : ℕ × ℕ). eqb p.1 q.1) sorted
  distinct = IsDistinct-IsPermutation (λ (p q : ℕ × ℕ). eqb p.1 q.1) flips keys sorted moved
      (IsDistinct-from_apart (λ (p q : ℕ × ℕ). eqb p.1 q.1) keys (λ i j d lt within. let l = a.apart i j d lt within in grind (arith, nat_tests)))

  maps : IsPermutation (map (λ (k : ℕ × ℕ). k.1) keys) (map (λ (k : ℕ × ℕ). k.1) sorted)
  maps = IsPermutation-map (λ (k : ℕ × ℕ). k.1) keys sorted moved

  pub ordered : IsOrder supports (map support_of sorted)
  ordered = record {
    rising = λ i j d lt within.
        let size = length-map sorted support_of in
        let x = get_or sorted i (0, 0) in
        let y = get_or sorted j (0, 0) in
        let far = sorted_far (λ (p q : ℕ × ℕ). is_lt (key_cmp p q)) (ranks_by key_total (λ (e : ℕ × ℕ). e)) sorted up i j (0, 0) (omega arith) (omega arith) in
        let two = apart_from_distinct (λ (p q : ℕ × ℕ). eqb p.1 q.1) sorted i j (0, 0) distinct lt (omega arith) in
        let kx = All-get_or (IsKey supports) sorted i (0, 0) (omega arith) right in
        let ky = All-get_or (IsKey supports) sorted j (0, 0) (omega arith) right in
        let ne : x.1 ≢ y.1 = λ e. grind (arith, nat_tests) in
        rw (get_or-map support_of sorted i (0, 0) d (omega arith), get_or-map support_of sorted j (0, 0) d (omega arith)) (rises x y kx.0 ky.0 ne far);
    exactly = λ x. (
      (λ c. has x c),
      (λ at. listed x at),
    );
  }
    where
      has : (x : ℕ × ℕ) → Contains (map support_of sorted) x → slice_get supports x.1 ≡ Some x.0
      has x (i, lt, e) =
          let size = length-map sorted support_of in
          let k = get_or sorted i (0, 0) in
          let is = All-get_or (IsKey supports) sorted i (0, 0) (omega arith) right in
          let same : support_of k ≡ x = sym (get_or-map support_of sorted i (0, 0) x (omega arith)) ∙ e in
          subst (λ (y : ℕ × ℕ). slice_get supports y.1 ≡ Some y.0) same is.1

      listed : (x : ℕ × ℕ) → slice_get supports x.1 ≡ Some x.0 → Contains (map support_of sorted) x
      listed x at =
          let inside = slice_get_within supports x.1 x.0 at in
          let found = Contains-permutation (map (λ (k : ℕ × ℕ). k.1) keys) (map (λ (k : ℕ × ℕ). k.1) sorted) x.1 maps (a.all x.1 (omega arith)) in
          let size = length-map sorted (λ (k : ℕ × ℕ). k.1) in
          let k = get_or sorted found.0 (0, 0) in
          let l = found.1 in
          let is = All-get_or (IsKey supports) sorted found.0 (0, 0) (omega arith) right in
          let place : k.1 ≡ x.1 = sym (get_or-map (λ (q : ℕ × ℕ). q.1) sorted found.0 (0, 0) x.1 (omega arith)) ∙ found.2 in
          let support : most - k.0 ≡ x.0 = same_Some (most - k.0) x.0 (sym is.1 ∙ (ap (slice_get supports) place ∙ at)) in
          let same : support_of k ≡ x = λ t. (support t, place t) in
          subst (Contains (map support_of sorted)) (get_or-map support_of sorted found.0 (0, 0) x (omega arith) ∙ same)
          (Contains-get_or (map support_of sorted) found.0 x (let m = length-map sorted support_of in omega arith))

-- the supports of the first keys, and of one more
pub supports_push : (sorted : List (ℕ × ℕ)) (i : ℕ) (d : ℕ × ℕ) → i < length sorted → map support_of (take i sorted) ++ support_of (get_or sorted i d) ∷ [] ≡ map support_of (take (i + 1) sorted)
supports_push sorted i d inside = sym (map-append support_of (take i sorted) (get_or sorted i d ∷ [])) ∙ sym (ap (map support_of) (take_more sorted i d inside))
