-- Entries by their keys.
use Rattle.std.proofs.Common.{◌≡◌, ℕ, zero, suc, ◌+◌, ◌<◌, ◌≤◌, List, [], ◌∷◌, ◌++◌, All, Bool, true, false, cond, filter, length, get_or, map, take, slice_get, Option, Some, None, Bor, refl, sym, ap, ◌∙◌, subst, arith, ◌≢◌, true≢false}
use Rattle.std.specs.Prelude.{is_none, not, is_some, IsPermutation, IsSorted}
use Rattle.std.specs.List.{AllPairs, Contains, position_or_len, range_with_len}
use Rattle.std.specs.Cmp.Lexicographic.{slice_cmp}
use Rattle.std.specs.Ordering.{bool_cmp, is_lt, nat_cmp, ordering_then}
use Rattle.std.specs.Str.{bytes_eq}
use Rattle.std.specs.declared.cmp.Ordering.{Ordering}
use Rattle.std.specs.declared.cmp.Ordering.TheVariants.{Less, Equal, Greater}
use Rattle.std.proofs.lemmas.List.{get_or-map, length-map, map-append, take_more}
use Rattle.std.proofs.lemmas.Simd.{map-map}
use Rattle.std.proofs.lemmas.List.Elements.{All-filter, All-from_get_or, All-get_or, All-map, All-push, All-weaker, filter-append, filter_passes}
use Rattle.std.proofs.lemmas.List.FromFn.{get_or-range_with_len, length-range_with_len}
use Rattle.std.proofs.lemmas.List.Kept.{AllPairs-filter}
use Rattle.std.proofs.lemmas.List.Sorted.{All-permutation, Contains-permutation, IsPermutation-map}
use Rattle.std.proofs.lemmas.Option.{slice_get-get_or}
use Rattle.std.proofs.Math.Seq.{take-length}
use Rattle.span_types.specs.declared.span.Span.{Span}
use Rattle.trace_types.specs.Firsts.{firsts_of}
use Rattle.span_requests.specs.CallerNumbers.{AreRoots}
use Rattle.span_requests.specs.Callers.{is_caller, is_consumer}
use Rattle.span_requests.specs.Entries.{AreEntries, first_sight, is_entry, request_cmp, spans_at, traces_of}
use Rattle.span_requests.specs.declared.entry_key.EntryKey.{EntryKey}
use Rattle.span_requests.specs.inner.EntryKeys.{AreKeys, IsKeyOf, entry_numbers, indexes_of}
use Rattle.span_requests.specs.inner.Ids.{lent_spans}
use Rattle.span_requests.specs.inner.Numbering.{caller_number, caller_numbers}
use Rattle.span_requests.proofs.ContainsLemmas.{contains_filter, contains_range}
use Rattle.span_requests.proofs.ApartLemmas.{apart_from_rising, apart_permutation, range_rises}
use Rattle.span_requests.proofs.CallerLemmas.{is_none-position, lent_size}
use Rattle.span_requests.proofs.ListLemmas.{is_none-find, some_inj}

-- ---- few traces

filter_few : {X : Type 0} (p : X → Bool) (xs : List X) → length (filter p xs) ≤ length xs
filter_few p [] = omega arith
filter_few p (x ∷ xs) = by (p x) (filter_few p xs)
  where
    by : (b : Bool) → length (filter p xs) ≤ length xs → length (cond b (x ∷ filter p xs) (filter p xs)) ≤ suc (length xs)
    by true h = omega (arith, h)
    by false h = omega (arith, h)

pub firsts_few : {X : Type 0} (same : X → X → Bool) (xs : List X) → length (firsts_of same xs) ≤ length xs
firsts_few same [] = omega arith
firsts_few same (x ∷ xs) = omega (arith, filter_few (λ y. not (same x y)) (firsts_of same xs), firsts_few same xs)

pub traces_few : (xs : List (Bor Span)) (keys : List (List ℕ)) → keys ≡ traces_of (lent_spans xs) → length keys ≤ length xs
traces_few xs keys h = omega (arith, ap length h, firsts_few bytes_eq (map (λ (s : Span). s.trace) (lent_spans xs)), length-map (lent_spans xs) (λ (s : Span). s.trace), lent_size xs)

-- ---- one more key

range_more : (a n : ℕ) → range_with_len a (n + 1) ≡ range_with_len a n ++ (a + n) ∷ []
range_more a zero = ap (λ k. k ∷ []) (let e : a ≡ a + 0 = omega arith in e)
range_more a (suc n) = ap (λ k. range_with_len a k) (let e : suc n + 1 ≡ suc (n + 1) = omega arith in e) ∙ ap (λ ks. a ∷ ks) (range_more (a + 1) n) ∙ ap (λ k. a ∷ (range_with_len (a + 1) n ++ k ∷ [])) (let e : a + 1 + n ≡ a + suc n = omega arith in e)

pub numbers_more : (callers : List (Option ℕ)) (n : ℕ) → entry_numbers callers (n + 1) ≡ entry_numbers callers n ++ cond (is_none (get_or callers n None)) (n ∷ []) []
numbers_more callers n =
    let p : ℕ → Bool = λ i. is_none (get_or callers i None) in
    ap (filter p) (range_more 0 n ∙ ap (λ k. range_with_len 0 n ++ k ∷ []) (let e : 0 + n ≡ n = omega arith in e)) ∙ filter-append p (range_with_len 0 n) (n ∷ [])

pub keys_more : (xs : List (Bor Span)) (keys : List EntryKey) (key : EntryKey) (s : Bor Span) (at : ℕ) → at < length xs → s ≡ get_or xs at s → key.index ≡ at → IsKeyOf (lent_spans xs) s.now key → AreKeys (lent_spans xs) keys → AreKeys (lent_spans xs) (keys ++ key ∷ [])
keys_more xs keys key s at lt is index own h = All-push P keys key h last
  where
    P : EntryKey → Type 0
    P = λ (key : EntryKey). (s : Span) → slice_get (lent_spans xs) key.index ≡ Some s → IsKeyOf (lent_spans xs) s key

    here : slice_get (lent_spans xs) at ≡ Some s.now
    here = slice_get-get_or (lent_spans xs) at s.now (omega (arith, lt, lent_size xs)) ∙ ap (λ (t : Span). Some t) (get_or-map (λ (t : Bor Span). t.now) xs at s s.now lt ∙ ap (λ (t : Bor Span). t.now) (sym is))

    last : P key
    last t there = subst (λ (u : Span). IsKeyOf (lent_spans xs) u key) (some_inj (sym here ∙ ap (slice_get (lent_spans xs)) (sym index) ∙ there)) own

pub sight_of : (xs : List (Bor Span)) (keys : List (List ℕ)) (s : Span) (n : ℕ) → keys ≡ traces_of (lent_spans xs) → n ≡ position_or_len (bytes_eq s.trace) keys → n ≡ first_sight (lent_spans xs) s.trace
sight_of xs keys s n h is = is ∙ ap (position_or_len (bytes_eq s.trace)) h

-- ---- the order of keys

weaker : (o p q : Ordering) → (is_lt p ≡ false → is_lt q ≡ false) → is_lt (ordering_then o p) ≡ false → is_lt (ordering_then o q) ≡ false
weaker Less p q f h = h
weaker Equal p q f h = f h
weaker Greater p q f h = refl

first_part : (o p : Ordering) → is_lt (ordering_then o p) ≡ false → is_lt o ≡ false
first_part Less p h = h
first_part Equal p h = refl
first_part Greater p h = refl

abbrev pub key_cmp : EntryKey → EntryKey → Ordering
key_cmp a b =
    ordering_then (nat_cmp a.first_sight b.first_sight) (ordering_then (bool_cmp a.consumer b.consumer) (ordering_then (bool_cmp a.parented b.parented)
    (ordering_then (nat_cmp a.start b.start) (ordering_then (slice_cmp nat_cmp a.id.now b.id.now) (nat_cmp a.index b.index)))))

-- the same without the index, by the fields
abbrev cmp_by : (f g : ℕ) (c d p q : Bool) (s t : ℕ) (i j : List ℕ) → Ordering
cmp_by f g c d p q s t i j =
    ordering_then (nat_cmp f g) (ordering_then (bool_cmp c d) (ordering_then (bool_cmp p q) (ordering_then (nat_cmp s t) (slice_cmp nat_cmp i j))))

ordered : (spans : List Span) (a b : EntryKey) (s t : Span) → IsKeyOf spans s a → IsKeyOf spans t b → is_lt (key_cmp a b) ≡ false → is_lt (request_cmp spans s t) ≡ false
ordered spans a b s t k l h =
    sym (ap (λ f. is_lt (cmp_by f b.first_sight a.consumer b.consumer a.parented b.parented a.start b.start a.id.now b.id.now)) k.sight
    ∙ ap (λ g. is_lt (cmp_by (first_sight spans s.trace) g a.consumer b.consumer a.parented b.parented a.start b.start a.id.now b.id.now)) l.sight
    ∙ ap (λ c. is_lt (cmp_by (first_sight spans s.trace) (first_sight spans t.trace) c b.consumer a.parented b.parented a.start b.start a.id.now b.id.now)) k.consumer
    ∙ ap (λ d. is_lt (cmp_by (first_sight spans s.trace) (first_sight spans t.trace) (is_consumer s.kind) d a.parented b.parented a.start b.start a.id.now b.id.now)) l.consumer
    ∙ ap (λ p. is_lt (cmp_by (first_sight spans s.trace) (first_sight spans t.trace) (is_consumer s.kind) (is_consumer t.kind) p b.parented a.start b.start a.id.now b.id.now)) k.parented
    ∙ ap (λ q. is_lt (cmp_by (first_sight spans s.trace) (first_sight spans t.trace) (is_consumer s.kind) (is_consumer t.kind) (is_some s.parent) q a.start b.start a.id.now b.id.now)) l.parented
    ∙ ap (λ x. is_lt (cmp_by (first_sight spans s.trace) (first_sight spans t.trace) (is_consumer s.kind) (is_consumer t.kind) (is_some s.parent) (is_some t.parent) x b.start a.id.now b.id.now)) k.start
    ∙ ap (λ y. is_lt (cmp_by (first_sight spans s.trace) (first_sight spans t.trace) (is_consumer s.kind) (is_consumer t.kind) (is_some s.parent) (is_some t.parent) s.start y a.id.now b.id.now)) l.start
    ∙ ap (λ (i : List ℕ). is_lt (cmp_by (first_sight spans s.trace) (first_sight spans t.trace) (is_consumer s.kind) (is_consumer t.kind) (is_some s.parent) (is_some t.parent) s.start t.start i b.id.now)) k.id
    ∙ ap (λ (j : List ℕ). is_lt (cmp_by (first_sight spans s.trace) (first_sight spans t.trace) (is_consumer s.kind) (is_consumer t.kind) (is_some s.parent) (is_some t.parent) s.start t.start s.id j)) l.id)
    ∙ weaker (nat_cmp a.first_sight b.first_sight) _ _ (weaker (bool_cmp a.consumer b.consumer) _ _ (weaker (bool_cmp a.parented b.parented) _ _ (weaker (nat_cmp a.start b.start) _ _ (first_part (slice_cmp nat_cmp a.id.now b.id.now) (nat_cmp a.index b.index))))) h

-- ---- entries in order

abbrev no_key : EntryKey
no_key = record { first_sight = 0; consumer = false; parented = false; start = 0; id = record { ref_ptr = (0, 0); now = [] }; index = 0 }

-- the entries are the spans with their numbers
pub entries_are : (spans : List Span) (d : Span) (n : ℕ) → n ≤ length spans → spans_at spans d (entry_numbers (caller_numbers spans) n) ≡ filter (is_entry spans) (take n spans)
entries_are spans d zero le = refl
entries_are spans d (suc n) le =
    ap (λ k. spans_at spans d (entry_numbers (caller_numbers spans) k)) (let e : suc n ≡ n + 1 = omega arith in e)
    ∙ ap (spans_at spans d) (numbers_more (caller_numbers spans) n) ∙ map-append (λ i. get_or spans i d) (entry_numbers (caller_numbers spans) n) _
    ∙ ap (λ (xs : List Span). xs ++ map (λ i. get_or spans i d) (cond (is_none (get_or (caller_numbers spans) n None)) (n ∷ []) [])) (entries_are spans d n (omega (arith, le)))
    ∙ ap (λ (xs : List Span). filter (is_entry spans) (take n spans) ++ xs) (last (is_none (get_or (caller_numbers spans) n None)) refl)
    ∙ sym (ap (filter (is_entry spans)) (ap (λ k. take k spans) (let e : suc n ≡ n + 1 = omega arith in e) ∙ take_more spans n d (omega (arith, le))) ∙ filter-append (is_entry spans) (take n spans) (get_or spans n d ∷ []))
  where
    same : is_none (get_or (caller_numbers spans) n None) ≡ is_entry spans (get_or spans n d)
    same = ap is_none (get_or-map (caller_number spans) spans n d None (omega (arith, le)))
        ∙ is_none-position (λ p. is_caller p (get_or spans n d)) spans ∙ sym (is_none-find (λ p. is_caller p (get_or spans n d)) spans)

    last : (b : Bool) → is_none (get_or (caller_numbers spans) n None) ≡ b → map (λ i. get_or spans i d) (cond b (n ∷ []) []) ≡ filter (is_entry spans) (get_or spans n d ∷ [])
    last true e = let f : is_entry spans (get_or spans n d) ≡ true = sym same ∙ e in rw f refl
    last false e = let f : is_entry spans (get_or spans n d) ≡ false = sym same ∙ e in rw f refl

module _ (spans : List Span) (callers : List (Option ℕ)) (keys order : List EntryKey) (are : callers ≡ caller_numbers spans) (of_spans : AreKeys spans keys) (indexes : indexes_of keys ≡ entry_numbers callers (length spans)) (moved : IsPermutation keys order) (sorted : IsSorted key_cmp order) where
  within_keys : All (λ n. n < length spans) (indexes_of keys)
  within_keys = subst (All (λ n. n < length spans)) (sym indexes) (All-filter (λ i. is_none (get_or callers i None)) (λ n. n < length spans) (range_with_len 0 (length spans)) (All-from_get_or (λ n. n < length spans) (range_with_len 0 (length spans)) 0 (λ i lt.
      omega (arith, lt, length-range_with_len 0 (length spans), get_or-range_with_len 0 (length spans) i 0 (omega (arith, lt, length-range_with_len 0 (length spans)))))))

  keys_within : All (λ (k : EntryKey). k.index < length spans) keys
  keys_within = All-from_get_or (λ (k : EntryKey). k.index < length spans) keys no_key (λ i lt.
      subst (λ n. n < length spans) (get_or-map (λ (k : EntryKey). k.index) keys i no_key 0 lt) (All-get_or (λ n. n < length spans) (indexes_of keys) i 0 (omega (arith, lt, length-map keys (λ (k : EntryKey). k.index))) within_keys))

  order_within : All (λ (k : EntryKey). k.index < length spans) order
  order_within = All-permutation (λ (k : EntryKey). k.index < length spans) keys order moved keys_within

  pub entries_within : All (λ n. n < length spans) (indexes_of order)
  entries_within = All-map (λ n. n < length spans) (λ (k : EntryKey). k.index) order order_within

  -- they are numbers of spans that no span calls, each once
  pub entries_roots : AreRoots callers (indexes_of order)
  entries_roots = record {
    first = All-permutation (λ e. get_or callers e None ≡ None) (indexes_of keys) (indexes_of order) moved_indexes
        (subst (All (λ e. get_or callers e None ≡ None)) (sym indexes) (All-weaker (λ i. is_none (get_or callers i None) ≡ true) (λ e. get_or callers e None ≡ None) (λ e h. none_from (get_or callers e None) h) (entry_numbers callers (length spans)) (filter_passes (λ i. is_none (get_or callers i None)) (range_with_len 0 (length spans)))));
    apart = apart_permutation (indexes_of keys) (indexes_of order) moved_indexes
        (subst (AllPairs (λ d e. d ≢ e)) (sym indexes) (apart_from_rising (entry_numbers callers (length spans)) (AllPairs-filter (λ i j. i < j) (λ i. is_none (get_or callers i None)) (range_with_len 0 (length spans)) (range_rises (length spans)))));
    all = λ e lt none. Contains-permutation (indexes_of keys) (indexes_of order) e moved_indexes
        (subst (λ (ns : List ℕ). Contains ns e) (sym indexes) (contains_filter (λ i. is_none (get_or callers i None)) (range_with_len 0 (length spans)) e
        (contains_range (length spans) e (omega (arith, lt, ap length are, length-map spans (caller_number spans)))) (ap is_none none)));
  }
    where
      moved_indexes : IsPermutation (indexes_of keys) (indexes_of order)
      moved_indexes = IsPermutation-map (λ (k : EntryKey). k.index) keys order moved

      none_from : (o : Option ℕ) → is_none o ≡ true → o ≡ None
      none_from None h = refl
      none_from (Some n) h = absurd (true≢false (sym h))

  of_order : AreKeys spans order
  of_order = All-permutation (λ (key : EntryKey). (s : Span) → slice_get spans key.index ≡ Some s → IsKeyOf spans s key) keys order moved of_spans

  module _ (d : Span) where
    span_of : EntryKey → Span
    span_of k = get_or spans k.index d

    all_entries : IsPermutation (filter (is_entry spans) spans) (spans_at spans d (indexes_of order))
    all_entries = subst (λ (xs : List Span). IsPermutation xs (spans_at spans d (indexes_of order))) (ap (spans_at spans d) (indexes ∙ ap (λ (cs : List (Option ℕ)). entry_numbers cs (length spans)) are) ∙ entries_are spans d (length spans) (omega arith) ∙ ap (filter (is_entry spans)) (take-length spans))
        (subst (λ (xs : List Span). IsPermutation xs (spans_at spans d (indexes_of order))) (sym (map-map (λ i. get_or spans i d) (λ (k : EntryKey). k.index) keys))
        (subst (IsPermutation (map (λ (k : EntryKey). get_or spans k.index d) keys)) (sym (map-map (λ i. get_or spans i d) (λ (k : EntryKey). k.index) order)) (IsPermutation-map (λ (k : EntryKey). get_or spans k.index d) keys order moved)))

    at_key : (i : ℕ) → i < length order → IsKeyOf spans (get_or spans (get_or order i no_key).index d) (get_or order i no_key)
    at_key i lt = All-get_or (λ (key : EntryKey). (s : Span) → slice_get spans key.index ≡ Some s → IsKeyOf spans s key) order i no_key lt of_order (get_or spans (get_or order i no_key).index d)
        (slice_get-get_or spans (get_or order i no_key).index d (All-get_or (λ (k : EntryKey). k.index < length spans) order i no_key lt order_within))

    in_order : IsSorted (request_cmp spans) (spans_at spans d (indexes_of order))
    in_order i e low lt =
        let size = length-map (indexes_of order) (λ n. get_or spans n d) in
        let also = length-map order (λ (k : EntryKey). k.index) in
        let m : i + 1 < length order = omega (arith, lt, size, also) in
        let at : (j : ℕ) → j < length order → get_or (spans_at spans d (indexes_of order)) j e ≡ get_or spans (get_or order j no_key).index d = λ j l. ap (λ (xs : List Span). get_or xs j e) (map-map (λ i. get_or spans i d) (λ (k : EntryKey). k.index) order) ∙ get_or-map (λ (k : EntryKey). get_or spans k.index d) order j no_key e l in
        ap (λ (s : Span). is_lt (request_cmp spans s (get_or (spans_at spans d (indexes_of order)) i e))) (at (i + 1) m)
        ∙ ap (λ (s : Span). is_lt (request_cmp spans (get_or spans (get_or order (i + 1) no_key).index d) s)) (at i (omega (arith, m)))
        ∙ ordered spans (get_or order (i + 1) no_key) (get_or order i no_key) _ _ (at_key (i + 1) m) (at_key i (omega (arith, m))) (sorted i no_key low m)

    pub are_entries : AreEntries spans (spans_at spans d (indexes_of order))
    are_entries = record { all = all_entries; sorted = in_order }

pub tested_none : (o : Option ℕ) (b : Bool) → is_some o ≡ not b → b ≡ is_none o
tested_none None true h = refl
tested_none None false h = h
tested_none (Some n) true h = h
tested_none (Some n) false h = refl
