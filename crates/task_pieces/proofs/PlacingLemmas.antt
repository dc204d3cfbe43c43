-- Pieces by place of their keys, and by index.
use Rattle.std.proofs.Common.{◌≡◌, ◌⊎◌, inl, inr, ℕ, ◌+◌, ◌-◌, ◌<◌, ◌≤◌, ◌==◌, ◌&&◌, ◌||◌, Bool, true, false, List, [], length, get_or, set, sum_by, not, slice_get, Some, All, Contains, refl, sym, ap, subst, ◌∙◌, arith}
use Rattle.std.specs.Prelude.{if◌then◌else◌}
use Rattle.std.specs.List.{IsDistinct, count_by, list_any}
use Rattle.std.specs.List.Sorted.{IsPermutation, IsSorted}
use Rattle.std.specs.Cmp.{IsTotalOrder, bool_cmp_total}
use Rattle.std.specs.Ordering.{bool_cmp, is_lt, ordering_then}
use Rattle.std.specs.declared.cmp.Ordering.{Ordering}
use Rattle.std.proofs.lemmas.Bool.{cases_Bool, cases_order, eq-eqb, false≢true, ne_eqb}
use Rattle.std.proofs.lemmas.Cmp.{nat_cmp_total, nat_list_cmp_total, on_total, then_total}
use Rattle.std.proofs.lemmas.List.{ext_get_or, get_or-map, get_or-set_other, get_or-set_same, length-map}
use Rattle.std.proofs.lemmas.List.Elements.{All-contains, Contains-get_or}
use Rattle.std.proofs.lemmas.List.Sorted.{All-permutation, Contains-permutation, IsPermutation-map, length_permutation, list_any-IsPermutation, ranks_by, sorted_far, sum_by-IsPermutation}
use Rattle.std.proofs.lemmas.List.Sums.{count_by-le-length}
use Rattle.std.proofs.lemmas.Bool.Decides.{nat_tests}
use Rattle.std.proofs.lemmas.Map.Keys.{IsDistinct-IsPermutation, IsDistinct-from_apart, apart_from_distinct}
use Rattle.std.proofs.lemmas.Option.{get_or_from_slice_get, slice_get-get_or, slice_get_within}
use Rattle.task_pieces.specs.TaskEvents.{TaskEvent, are_of_one_task, is_before}
use Rattle.task_pieces.specs.Pieces.{ends_wait, is_right_before, piece_of, pieces_of}
use Rattle.task_pieces.specs.TaskKeys.{AreIndexed, event_of_key, events_of_keys}
use Rattle.task_pieces.specs.declared.task_key.TaskKey.{TaskKey}
use Rattle.task_pieces.specs.inner.Numbering.{ArePlaced, IsSorting, next_piece, piece_at}
use Rattle.task_pieces.specs.inner.Orders.{IsUpTo}
use Rattle.task_pieces.proofs.OrderLemmas.{first_of_all, first_of_task, key_cmp, next_of_task, upto_from_cmp}
use Rattle.task_pieces.proofs.StepLemmas.{bit}

-- ---- the piece at a place

pub few_pieces : (xs : List TaskEvent) (x : TaskEvent) → piece_of xs x ≤ length xs + 1
few_pieces xs x = let h = count_by-le-length (λ c. ends_wait xs c && (c.index == x.index || is_before c x)) xs in omega (arith, h)

module _ (order : List TaskKey) (h : IsSorting order) (d : TaskKey) where
  abbrev events : List TaskEvent
  events = events_of_keys order

  long : length events ≡ length order
  long = length-map order event_of_key

  mapped : (i : ℕ) → i < length order → get_or events i (event_of_key d) ≡ event_of_key (get_or order i d)
  mapped i lt = get_or-map event_of_key order i d (event_of_key d) lt

  pub first_at : 0 < length order → 1 ≡ piece_at order 0 d
  first_at some = sym (subst (λ (e : TaskEvent). piece_of events e ≡ 1) (mapped 0 some) (first_of_all events h.ordered (event_of_key d) (omega (arith, long))))

  told : (k piece : ℕ) (lt : k + 1 < length events) → piece ≡ piece_of events (get_or events k (event_of_key d))
      → (are_of_one_task (get_or events k (event_of_key d)) (get_or events (k + 1) (event_of_key d)) ≡ true) ⊎ (are_of_one_task (get_or events k (event_of_key d)) (get_or events (k + 1) (event_of_key d)) ≡ false)
      → next_piece piece (get_or events k (event_of_key d)) (get_or events (k + 1) (event_of_key d)) ≡ piece_of events (get_or events (k + 1) (event_of_key d))
  told k piece lt was (inl both) =
      ap (λ b. if b then piece + bit ((get_or events (k + 1) (event_of_key d)).receives && (get_or events k (event_of_key d)).sends) else 1) both
      ∙ ap (λ n. n + bit ((get_or events (k + 1) (event_of_key d)).receives && (get_or events k (event_of_key d)).sends)) was
      ∙ sym (next_of_task events h.ordered (event_of_key d) k lt both)
  told k piece lt was (inr apart) =
      ap (λ b. if b then piece + bit ((get_or events (k + 1) (event_of_key d)).receives && (get_or events k (event_of_key d)).sends) else 1) apart
      ∙ sym (first_of_task events h.ordered (event_of_key d) k lt apart)

  told_at : (k piece : ℕ) → k + 1 < length order → piece ≡ piece_at order k d → next_piece piece (event_of_key (get_or order k d)) (event_of_key (get_or order (k + 1) d)) ≡ piece_at order (k + 1) d
  told_at k piece within is =
      let lt : k + 1 < length events = omega (arith, long) in
      let was : piece ≡ piece_of events (get_or events k (event_of_key d)) = is ∙ ap (piece_of events) (sym (mapped k (omega arith))) in
      subst (λ (x : TaskEvent). next_piece piece x (event_of_key (get_or order (k + 1) d)) ≡ piece_of events (event_of_key (get_or order (k + 1) d))) (mapped k (omega arith))
      (subst (λ (y : TaskEvent). next_piece piece (get_or events k (event_of_key d)) y ≡ piece_of events y) (mapped (k + 1) within)
      (told k piece lt was (cases_Bool (are_of_one_task (get_or events k (event_of_key d)) (get_or events (k + 1) (event_of_key d))))))

  any_key : (e : TaskKey) (k : ℕ) → k < length order → get_or order k e ≡ get_or order k d
  any_key e k within = get_or_from_slice_get order k (get_or order k d) e (slice_get-get_or order k d within)

  pub next_at : (e : TaskKey) (at piece : ℕ) → 0 < at → at < length order → piece ≡ piece_at order (at - 1) d → next_piece piece (event_of_key (get_or order (at - 1) e)) (event_of_key (get_or order at e)) ≡ piece_at order at d
  next_at e at piece some within is =
      let up : at - 1 + 1 ≡ at = omega arith in
      let low : at - 1 + 1 < length order = omega arith in
      subst (λ (x : TaskKey). next_piece piece (event_of_key x) (event_of_key (get_or order at e)) ≡ piece_at order at d) (sym (any_key e (at - 1) (omega arith)))
      (subst (λ (x : TaskKey). next_piece piece (event_of_key (get_or order (at - 1) d)) (event_of_key x) ≡ piece_at order at d) (sym (any_key e at within))
      (subst (λ (n : ℕ). next_piece piece (event_of_key (get_or order (at - 1) d)) (event_of_key (get_or order n d)) ≡ piece_at order n d) up (told_at (at - 1) piece low is)))

  pub few_at : (at : ℕ) → piece_at order at d ≤ length order + 1
  few_at at = let h = few_pieces events (event_of_key (get_or order at d)) in omega (arith, long, h)

  pub index_within : (at : ℕ) → at < length order → (get_or order at d).index < length order
  index_within at lt = All-contains (λ (k : TaskKey). k.index < length order) order (get_or order at d) h.within (Contains-get_or order at d lt)

-- ---- the pieces at their indexes

-- one more piece was placed
pub placed_more : (order : List TaskKey) (h : IsSorting order) (pieces : List ℕ) (at piece : ℕ) (d : TaskKey) → at < length order → length pieces ≡ length order → ArePlaced order at pieces
    → ((e : TaskKey) → piece ≡ piece_at order at e) → ArePlaced order (at + 1) (set pieces (get_or order at d).index piece)
placed_more order h pieces at piece d lt long so_far is i e low = by (cases_order i at)
  where
    index : ℕ
    index = (get_or order at d).index

    any : (x y : TaskKey) (k : ℕ) → k < length order → get_or order k x ≡ get_or order k y
    any x y k within = get_or_from_slice_get order k (get_or order k y) x (slice_get-get_or order k y within)

    same_place : (k : ℕ) → k < length order → (get_or order k e).index ≡ index → k ≡ at
    same_place k within eq =
        let events = events_of_keys order in
        let size = length-map order event_of_key in
        h.ordered.apart k at (event_of_key e) (omega arith) (omega arith)
        (eq-eqb _ _ (ap (λ (x : TaskEvent). x.index) (get_or-map event_of_key order k e (event_of_key e) within) ∙ eq ∙ ap (λ (k : TaskKey). k.index) (any d e at lt)
        ∙ sym (ap (λ (x : TaskEvent). x.index) (get_or-map event_of_key order at e (event_of_key e) lt))))

    room : index < length pieces
    room = let w = index_within order h d at lt in omega (arith, w, long)

    by : (i ≡ at) ⊎ ((i < at) ⊎ (at < i)) → get_or (set pieces index piece) (get_or order i e).index 0 ≡ piece_at order i e
    by (inl eq) = subst (λ (k : ℕ). get_or (set pieces index piece) (get_or order k e).index 0 ≡ piece_at order k e) (sym eq)
        (ap (λ (k : TaskKey). get_or (set pieces index piece) k.index 0) (any e d at lt) ∙ get_or-set_same pieces index piece 0 room ∙ is e)
    by (inr (inl below)) = get_or-set_other pieces index (get_or order i e).index piece 0 (λ eq. let s = same_place i (omega arith) eq in omega arith) ∙ so_far i e below
    by (inr (inr above)) = absurd (omega arith)

-- ---- keys and their sorting

-- a list and its permutation have the same pieces
count_alike : {X : Type 0} (p q : X → Bool) (xs ys : List X) → IsPermutation xs ys → ((x : X) → p x ≡ q x) → count_by p ys ≡ count_by q xs
count_alike p q xs ys moved same = sum_by-IsPermutation (λ x. bit (p x)) xs ys moved ∙ ap (λ (f : _ → ℕ). sum_by f xs) (λ i x. bit (same x i))

any_alike : {X : Type 0} (p q : X → Bool) (xs ys : List X) → IsPermutation xs ys → ((x : X) → p x ≡ q x) → list_any p ys ≡ list_any q xs
any_alike p q xs ys moved same = sym (list_any-IsPermutation p xs ys moved) ∙ ap (λ (f : _ → Bool). list_any f xs) (λ i x. same x i)

right_alike : (xs ys : List TaskEvent) → IsPermutation xs ys → (a b : TaskEvent) → is_right_before ys a b ≡ is_right_before xs a b
right_alike xs ys moved a b = ap (λ t. is_before a b && not t) (any_alike (λ c. is_before a c && is_before c b) (λ c. is_before a c && is_before c b) xs ys moved (λ c. refl))

ends_alike : (xs ys : List TaskEvent) → IsPermutation xs ys → (b : TaskEvent) → ends_wait ys b ≡ ends_wait xs b
ends_alike xs ys moved b = ap (λ t. b.receives && t) (any_alike (λ a. a.sends && is_right_before ys a b) (λ a. a.sends && is_right_before xs a b) xs ys moved (λ a. ap (λ t. a.sends && t) (right_alike xs ys moved a b)))

pub piece_alike : (xs ys : List TaskEvent) → IsPermutation xs ys → (b : TaskEvent) → piece_of ys b ≡ piece_of xs b
piece_alike xs ys moved b =
    ap (λ n. 1 + n) (count_alike (λ c. ends_wait ys c && (c.index == b.index || is_before c b)) (λ c. ends_wait xs c && (c.index == b.index || is_before c b)) xs ys moved
    (λ c. ap (λ t. t && (c.index == b.index || is_before c b)) (ends_alike xs ys moved c)))

-- the order of keys
abbrev pub task_key_cmp : TaskKey → TaskKey → Ordering
task_key_cmp a b = key_cmp (ordering_then (bool_cmp a.sends b.sends) (bool_cmp a.receives b.receives)) (event_of_key a) (event_of_key b)

key_total : IsTotalOrder task_key_cmp
key_total =
    then_total (on_total (λ (k : TaskKey). k.batch) nat_cmp_total) (then_total (on_total (λ (k : TaskKey). k.request.now) nat_list_cmp_total) (then_total (on_total (λ (k : TaskKey). k.task.now) nat_list_cmp_total)
    (then_total (on_total (λ (k : TaskKey). k.time) nat_cmp_total) (then_total (on_total (λ (k : TaskKey). k.index) nat_cmp_total)
    (then_total (on_total (λ (k : TaskKey). k.sends) bool_cmp_total) (on_total (λ (k : TaskKey). k.receives) bool_cmp_total))))))

abbrev pub no_key : TaskKey
no_key = record { batch = 0; request = record { ref_ptr = (0, 0); now = [] }; task = record { ref_ptr = (0, 0); now = [] }; time = 0; index = 0; sends = false; receives = false }

module _ (keys order : List TaskKey) (indexed : AreIndexed keys) (moved : IsPermutation keys order) where
  size : length order ≡ length keys
  size = length_permutation keys order moved

  -- the key at each index is itself
  at_index : (k : TaskKey) → Contains keys k → slice_get keys k.index ≡ Some k
  at_index k (i, lt, e) =
      let there : slice_get keys i ≡ Some k = slice_get-get_or keys i k lt ∙ ap (λ (x : TaskKey). Some x) e in
      ap (slice_get keys) (indexed i k there) ∙ there

  known : All (λ (k : TaskKey). slice_get keys k.index ≡ Some k) order
  known = All-permutation (λ (k : TaskKey). slice_get keys k.index ≡ Some k) keys order moved
      (λ i d lt. at_index (get_or keys i d) (Contains-get_or keys i d lt))

  pub within_all : All (λ (k : TaskKey). k.index < length order) order
  within_all i d lt = let w = slice_get_within keys (get_or order i d).index (get_or order i d) (known i d lt) in omega (arith, size, w)

  abbrev pub same_index : TaskKey → TaskKey → Bool
  same_index a b = a.index == b.index

  flips : (a b : TaskKey) → same_index a b ≡ same_index b a
  flips a b = grind (arith, nat_tests)

  distinct : IsDistinct same_index order
  distinct = IsDistinct-IsPermutation same_index flips keys order moved (IsDistinct-from_apart same_index keys (λ i j d lt within.
      let p = indexed i (get_or keys i d) (slice_get-get_or keys i d (omega arith)) in
      let q = indexed j (get_or keys j d) (slice_get-get_or keys j d within) in
      ne_eqb (get_or keys i d).index (get_or keys j d).index (λ e. omega (arith, e, p, q))))

  pub apart_all : (i j : ℕ) (d : TaskKey) → i < length order → j < length order → same_index (get_or order i d) (get_or order j d) ≡ true → i ≡ j
  apart_all i j d m n e = by (cases_order i j)
    where
      by : (i ≡ j) ⊎ ((i < j) ⊎ (j < i)) → i ≡ j
      by (inl e) = e
      by (inr (inl l)) = absurd (false≢true (sym (apart_from_distinct same_index order i j d distinct l n) ∙ e))
      by (inr (inr l)) = absurd (false≢true (sym (apart_from_distinct same_index order j i d distinct l m) ∙ (flips (get_or order j d) (get_or order i d) ∙ e)))

  -- keys that were sorted
  pub sorting : IsSorted task_key_cmp order → IsSorting order
  sorting sorted = record {
    ordered = record {
      upto = λ i j d le lt.
          let m : i < length order = omega (arith, le, lt, length-map order event_of_key) in
          let n : j < length order = omega (arith, lt, length-map order event_of_key) in
          let a : TaskKey = get_or order i no_key in
          let b : TaskKey = get_or order j no_key in
          let far = sorted_far (λ x y. is_lt (task_key_cmp x y)) (ranks_by key_total (λ (k : TaskKey). k)) order sorted i j no_key le n in
          subst (λ (x : TaskEvent). IsUpTo x (get_or (events_of_keys order) j d)) (sym (get_or-map event_of_key order i no_key d m))
          (subst (λ (y : TaskEvent). IsUpTo (event_of_key a) y) (sym (get_or-map event_of_key order j no_key d n))
          (upto_from_cmp (ordering_then (bool_cmp b.sends a.sends) (bool_cmp b.receives a.receives)) (event_of_key a) (event_of_key b) far));
      apart = λ i j d lt within e.
          let m : i < length order = omega (arith, lt, length-map order event_of_key) in
          let n : j < length order = omega (arith, within, length-map order event_of_key) in
          apart_all i j no_key m n
          (subst (λ (x : TaskEvent). (x.index == (get_or order j no_key).index) ≡ true) (get_or-map event_of_key order i no_key d m)
          (subst (λ (y : TaskEvent). ((get_or (events_of_keys order) i d).index == y.index) ≡ true) (get_or-map event_of_key order j no_key d n) e));
    };
    within = within_all;
  }

  -- pieces at their indexes are those of the keys
  pub placed_all : (pieces : List ℕ) → length pieces ≡ length order → ArePlaced order (length order) pieces → pieces ≡ pieces_of (events_of_keys keys)
  placed_all pieces full placed =
      let all = length-map (events_of_keys keys) (piece_of (events_of_keys keys)) in
      let each = length-map keys event_of_key in
      ext_get_or 0 pieces (pieces_of (events_of_keys keys)) (omega (arith, full, size, all, each)) each_piece
    where
      each_piece : (i : ℕ) → i < length pieces → get_or pieces i 0 ≡ get_or (pieces_of (events_of_keys keys)) i 0
      each_piece i lt =
          let events = events_of_keys keys in
          let each = length-map keys event_of_key in
          let low : i < length keys = omega (arith, lt, full, size) in
          let k : TaskKey = get_or keys i no_key in
          let index : k.index ≡ i = indexed i k (slice_get-get_or keys i no_key low) in
          let there = Contains-permutation keys order k moved (Contains-get_or keys i no_key low) in
          let n = there.0 in
          let placed_k : get_or pieces i 0 ≡ piece_of (events_of_keys order) (event_of_key k) =
          ap (λ (m : ℕ). get_or pieces m 0) (sym index) ∙ ap (λ (x : TaskKey). get_or pieces x.index 0) (sym there.2) ∙ placed n k there.1 ∙ ap (λ (x : TaskKey). piece_of (events_of_keys order) (event_of_key x)) there.2 in
          placed_k ∙ piece_alike events (events_of_keys order) (IsPermutation-map event_of_key keys order moved) (event_of_key k)
          ∙ sym (get_or-map (piece_of events) events i (event_of_key no_key) 0 (omega (arith, low, each)) ∙ ap (piece_of events) (get_or-map event_of_key keys i no_key (event_of_key no_key) low))
