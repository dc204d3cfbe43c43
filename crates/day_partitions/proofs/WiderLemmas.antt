-- Trees that are new, that have more spare rows, or whose rows are wider.
use Rattle.std.proofs.Common.{◌≡◌, ◌≢◌, ℕ, zero, suc, ◌+◌, ◌-◌, ◌*◌, ◌<◌, ◌≤◌, min, inl, inr, true, ◌==◌, nat_lt, cond, List, [], ◌∷◌, length, get_or, map, replicate, Option, Some, None, is_some, IsSome, unwrap_or, Result, Ok, Err, OnOk, OnErr, refl, sym, ap, ◌∙◌, ◌⊎◌, arith, subst, length-append}
use Rattle.std.proofs.lemmas.Bool.{cases_eq, cases_lt, false≢true, lt-ltb, le-ltb, ne_eqb, eqb-true}
use Rattle.std.proofs.lemmas.List.{ext_get_or, length-map, length-replicate, get_or-replicate, get_or_append_left, get_or-append_right, replicate-append-replicate}
use Rattle.std.specs.Int.{bit_at}
use Rattle.std.specs.Option.{option_map}
use Rattle.std.specs.FinMap.{get}
use Rattle.word_rows.specs.Words.{IsCommon, bit_of, full_words as full, widened_words as widened}
use Rattle.row_pool.specs.Pools.{Pool, pool, IsLive, row_at, IsWider}
use Rattle.trace_types.proofs.ElementLemmas.{map_same}
use Rattle.day_partitions.specs.inner.Trees.{TreeState, tree, widened_tree}
use Rattle.day_partitions.specs.inner.Nodes.{id_at, owns_row, AreMade, IsTree, leaf_rows, tree_of}
use Rattle.day_partitions.proofs.PoolLemmas.{row_at-kept, row_at-is}
use Rattle.day_partitions.proofs.PlaceLemmas.{id_inner, id_leaf, id_last, own_leaf, own_last}
use Rattle.day_partitions.proofs.LeafLemmas.{get_rows, id_there}
use Rattle.day_partitions.proofs.ClimbLemmas.{common_of}
use Rattle.day_partitions.proofs.KeyLemmas.{same_len}

-- ---- a new tree
common_same : (a : List ℕ) → IsCommon a a a
common_same a = record { width = refl; bits = λ i b l h. omega arith }

-- the index of the id that stands at a place of a new tree
abbrev made_index : ℕ → ℕ
made_index n = cond (nat_lt n 64) n (cond (n == 128) 64 65)

index_inner : (n : ℕ) → n < 64 → made_index n ≡ n
index_inner n l = ap (λ b. cond b n (cond (n == 128) 64 65)) (lt-ltb n 64 l)

index_other : (n : ℕ) → 64 ≤ n → n ≢ 128 → made_index n ≡ 65
index_other n l e = ap (λ b. cond b n (cond (n == 128) 64 65)) (le-ltb n 64 l) ∙ ap (λ b. cond b 64 65) (ne_eqb n 128 e)

index_second : (n : ℕ) → n ≡ 128 → made_index n ≡ 64
index_second n e = ap made_index e

index_within : (n : ℕ) → made_index n < 66
index_within n = elim (cases_lt n 64) [
  | inl low ↦ let e = index_inner n low in omega arith
  | inr high ↦ elim (cases_eq n 128) [ inl h ↦ let e = index_second n h in omega arith | inr h ↦ let e = index_other n high h in omega arith ]
]

abbrev no_leaves : List (Option ℕ)
no_leaves = replicate 64 None

no_leaf : (k : ℕ) → k < 64 → get_or no_leaves k None ≡ None
no_leaf k l = get_or-replicate 64 k None None l

id_made : (ids : List ℕ) (n : ℕ) → n < 130 → id_at ids no_leaves n ≡ get_or ids (made_index n) 0
id_made ids n l = elim (cases_lt n 64) [
  | inl low ↦ id_inner ids no_leaves n low ∙ ap (λ i. get_or ids i 0) (sym (index_inner n low))
  | inr high ↦ elim (cases_lt n 128) [
    | inl leaf ↦ id_leaf ids no_leaves n high leaf ∙ ap (λ o. unwrap_or o (get_or ids 65 0)) (no_leaf (n - 64) (omega arith)) ∙ ap (λ i. get_or ids i 0) (sym (index_other n high (λ e. omega arith)))
    | inr last ↦ elim (cases_eq n 128) [
      | inl e ↦ id_last ids no_leaves n last ∙ (let at : n - 64 ≡ 64 = omega arith in ap (λ i. get_or ids i 0) at) ∙ ap (λ i. get_or ids i 0) (sym (index_second n e))
      | inr e ↦ id_last ids no_leaves n last ∙ (let at : n - 64 ≡ 65 = omega arith in ap (λ i. get_or ids i 0) at) ∙ ap (λ i. get_or ids i 0) (sym (index_other n high e))
    ]
  ]
]

own_made : (m : ℕ) → m < 130 → owns_row no_leaves m ≡ true → (m < 64) ⊎ (m ≡ 128)
own_made m l h = elim (cases_lt m 64) [
  | inl low ↦ inl low
  | inr high ↦ elim (cases_lt m 128) [
    | inl leaf ↦ absurd (false≢true (sym (own_leaf no_leaves m high leaf ∙ ap is_some (no_leaf (m - 64) (omega arith))) ∙ h))
    | inr last ↦ inr (eqb-true m 128 (sym (own_last no_leaves m last) ∙ h))
  ]
]

index_apart : (m n : ℕ) → n < 130 → (m < 64) ⊎ (m ≡ 128) → m ≢ n → made_index m ≢ made_index n
index_apart m n l (inl low) other e = elim (cases_lt n 64) [
  | inl h ↦ other (sym (index_inner m low) ∙ e ∙ index_inner n h)
  | inr h ↦ elim (cases_eq n 128) [
    | inl s ↦ let x = index_inner m low in let y = index_second n s in omega arith
    | inr s ↦ let x = index_inner m low in let y = index_other n h s in omega arith
  ]
]
index_apart m n l (inr same) other e = elim (cases_lt n 64) [
  | inl h ↦ let x = index_second m same in let y = index_inner n h in omega arith
  | inr h ↦ elim (cases_eq n 128) [
    | inl s ↦ other (omega arith)
    | inr s ↦ let x = index_second m same in let y = index_other n h s in omega arith
  ]
]

tree_made_at : (w : ℕ) (p : Pool) (ids : List ℕ) → AreMade w p ids → IsTree p ids no_leaves
tree_made_at w p ids m =
    let row : (n : ℕ) → n < 130 → row_at p (id_at ids no_leaves n) ≡ full w = λ n l. ap (row_at p) (id_made ids n l) ∙ m.full_rows (made_index n) (index_within n) in
    record {
      rows = record {
        all_nodes = m.count;
        all_leaves = refl;
        live = λ n l. subst (λ i. IsLive p i) (sym (id_made ids n l)) (m.live (made_index n) (index_within n));
        apart = λ i n li ln mine other e. m.apart (made_index i) (made_index n) (index_within i) (index_within n) (index_apart i n ln (own_made i li mine) other) (sym (id_made ids i li) ∙ e ∙ id_made ids n ln);
        long = λ n l. ap length (row n l) ∙ length-replicate w 18446744073709551615 ∙ sym m.width_is;
        blank = row 129 (omega arith) ∙ ap full (sym m.width_is);
        counted = m.counted;
      };
      met = λ n low high other. common_of _ _ _ _ _ _ (row (2 * n) (omega arith)) (row (2 * n + 1) (omega arith)) (row n (omega arith)) (common_same (full w));
    }

pub tree_made : (w : ℕ) (p : Pool) (ids : List ℕ) (ls : List (Option ℕ)) → AreMade w p ids → ls ≡ replicate 64 None → IsTree p ids ls
tree_made w p ids ls m e = subst (λ l. IsTree p ids l) (sym e) (tree_made_at w p ids m)

-- ---- a call that fails leaves all as it was
pub either : {A E X : Type 0} (r : Result A E) (x y z : X) → OnOk r (x ≡ y) → OnErr r (x ≡ z) → (x ≡ y) ⊎ (x ≡ z)
either (Ok a) x y z ok err = inl ok
either (Err e) x y z ok err = inr err

pub by_result : {A E : Type 0} (r : Result A E) (P Q R : Type 0) → (P → R) → (Q → R) → OnOk r P → OnErr r Q → R
by_result (Ok a) P Q R f g ok err = f ok
by_result (Err e) P Q R f g ok err = g err

-- ---- other numbers of spare rows
pub tree_spare : (p : Pool) (nodes : List ℕ) (ls : List (Option ℕ)) (s : ℕ) → IsTree p nodes ls → IsTree (pool p.width p.rows s) nodes ls
tree_spare p nodes ls s t =
    let q = pool p.width p.rows s in
    let same : (i : ℕ) → row_at q i ≡ row_at p i = λ i. row_at-kept p q i refl in
    record {
      rows = record {
        all_nodes = t.rows.all_nodes;
        all_leaves = t.rows.all_leaves;
        live = t.rows.live;
        apart = t.rows.apart;
        long = λ n l. ap length (same (id_at nodes ls n)) ∙ t.rows.long n l;
        blank = same (id_at nodes ls 129) ∙ t.rows.blank;
        counted = t.rows.counted;
      };
      met = λ m low high other. common_of _ _ _ _ _ _ (same (id_at nodes ls (2 * m))) (same (id_at nodes ls (2 * m + 1))) (same (id_at nodes ls m)) (t.met m low high other);
    }

option_same : (f g : ℕ → List ℕ) → ((i : ℕ) → f i ≡ g i) → (o : Option ℕ) → option_map f o ≡ option_map g o
option_same f g same None = refl
option_same f g same (Some x) = ap Some (same x)

pub leaves_spare : (p : Pool) (ls : List (Option ℕ)) (s : ℕ) → leaf_rows (pool p.width p.rows s) ls ≡ leaf_rows p ls
leaves_spare p ls s = map_same _ _ (option_same _ _ (λ i. row_at-kept p (pool p.width p.rows s) i refl)) ls

-- ---- wider rows
pub widened_bit_low : (a : List ℕ) (m i b : ℕ) → i < length a → bit_of (widened a m) i b ≡ bit_of a i b
widened_bit_low a m i b l = ap (λ n. bit_at n b) (get_or_append_left a (full m) 0 i l)

pub widened_bit_high : (a : List ℕ) (m n i b : ℕ) → length a ≡ n → n ≤ i → bit_of (widened a m) i b ≡ bit_of (full m) (i - n) b
widened_bit_high a m n i b e l = ap (λ k. bit_at k b) (get_or-append_right a (full m) n i 0 e l)

pub common_widened : (a b c : List ℕ) (m : ℕ) → length b ≡ length a → IsCommon a b c → IsCommon (widened a m) (widened b m) (widened c m)
common_widened a b c m eb h =
    record {
      width = length-append c (full m) ∙ ap (λ n. n + length (full m)) h.width ∙ sym (length-append a (full m));
      bits = λ i n l s. elim (cases_lt i (length a)) [
        | inl low ↦ widened_bit_low c m i n (omega (arith, h.width)) ∙ h.bits i n low s
            ∙ ap (λ x. min x (bit_of b i n)) (sym (widened_bit_low a m i n low)) ∙ ap (min (bit_of (widened a m) i n)) (sym (widened_bit_low b m i n (omega arith)))
        | inr high ↦ let x = widened_bit_high a m (length a) i n refl high in let y = widened_bit_high b m (length a) i n eb high in let z = widened_bit_high c m (length a) i n h.width high in omega arith
      ];
    }

is_some_map : (f : List ℕ → List ℕ) (o : Option (List ℕ)) → is_some (option_map f o) ≡ is_some o
is_some_map f None = refl
is_some_map f (Some x) = refl

some_words : (o : Option (List ℕ)) → IsSome o → (xs : List ℕ) × (o ≡ Some xs)
some_words None h = absurd (false≢true h)
some_words (Some xs) h = (xs, refl)

module _ (p q : Pool) (w : ℕ) (wider : p.width ≤ w) (h : IsWider p w q) where
  abbrev more : ℕ
  more = w - p.width

  row_wider : (i : ℕ) → IsLive p i → row_at q i ≡ widened (row_at p i) more
  row_wider i live =
      let s = some_words (get p.rows i) live in
      row_at-is q i (widened s.0 more) (h.rows i ∙ ap (option_map (λ ws. widened ws more)) s.1) ∙ ap (λ ws. widened ws more) (sym (row_at-is p i s.0 s.1))

  keys_same : (i : ℕ) → is_some (get q.rows i) ≡ is_some (get p.rows i)
  keys_same i = ap is_some (h.rows i) ∙ is_some_map (λ ws. widened ws more) (get p.rows i)

  pub tree_wider : (nodes : List ℕ) (ls : List (Option ℕ)) → IsTree p nodes ls → IsTree q nodes ls
  tree_wider nodes ls t =
      let id = id_at nodes ls in
      let row : (n : ℕ) → n < 130 → row_at q (id n) ≡ widened (row_at p (id n)) more = λ n l. row_wider (id n) (t.rows.live n l) in
      record {
        rows = record {
          all_nodes = t.rows.all_nodes;
          all_leaves = t.rows.all_leaves;
          live = λ n l. keys_same (id n) ∙ t.rows.live n l;
          apart = t.rows.apart;
          long = λ n l. let e = ap length (row n l) ∙ length-append (row_at p (id n)) (full more) in
              let s = length-replicate {A = ℕ} more 18446744073709551615 in let o = t.rows.long n l in let k = h.width in omega (arith, e, s, o, k);
          blank = row 129 (omega arith) ∙ ap (λ ws. widened ws more) t.rows.blank ∙ replicate-append-replicate p.width more 18446744073709551615
              ∙ (let e : p.width + more ≡ q.width = omega (arith, h.width) in ap full e);
          counted = same_len q.rows p.rows keys_same ∙ t.rows.counted;
        };
        met = λ m low high other. common_of _ _ _ _ _ _ (row (2 * m) (omega arith)) (row (2 * m + 1) (omega arith)) (row m (omega arith))
            (common_widened _ _ _ more (t.rows.long (2 * m + 1) (omega arith) ∙ sym (t.rows.long (2 * m) (omega arith))) (t.met m low high other));
      }

  leaf_wider : (o : Option ℕ) → ((x : ℕ) → o ≡ Some x → IsLive p x) → option_map (row_at q) o ≡ option_map (λ ws. widened ws more) (option_map (row_at p) o)
  leaf_wider None live = refl
  leaf_wider (Some x) live = ap Some (row_wider x (live x refl))

  pub leaves_wider : (nodes : List ℕ) (ls : List (Option ℕ)) → IsTree p nodes ls → leaf_rows q ls ≡ map (option_map (λ ws. widened ws more)) (leaf_rows p ls)
  leaves_wider nodes ls t =
      let new = length-map ls (option_map (row_at q)) in
      let old = length-map ls (option_map (row_at p)) in
      let out = length-map (leaf_rows p ls) (option_map (λ ws. widened ws more)) in
      ext_get_or None _ _ (new ∙ sym old ∙ sym out) (λ i l.
      let below : i < 64 = omega (arith, t.rows.all_leaves) in
      get_rows (row_at q) ls i
      ∙ leaf_wider (get_or ls i None) (λ x e. subst (λ j. IsLive p j) (id_there nodes ls i x below e) (t.rows.live (64 + i) (omega arith)))
      ∙ ap (option_map (λ ws. widened ws more)) (sym (get_rows (row_at p) ls i))
      ∙ sym (get_widened (leaf_rows p ls) i))
    where
      get_widened : (vs : List (Option (List ℕ))) (i : ℕ) → get_or (map (option_map (λ ws. widened ws more)) vs) i None ≡ option_map (λ ws. widened ws more) (get_or vs i None)
      get_widened [] i = refl
      get_widened (v ∷ vs) zero = refl
      get_widened (v ∷ vs) (suc i) = get_widened vs i

  pub view_wider : (nodes : List ℕ) (ls : List (Option ℕ)) (u : TreeState) → IsTree p nodes ls → tree_of p ls ≡ u → tree_of q ls ≡ widened_tree u w (w - u.width)
  view_wider nodes ls u t e =
      ap (λ v. tree v (leaf_rows q ls) q.spare) h.width ∙ ap (λ v. tree w v q.spare) (leaves_wider nodes ls t) ∙ ap (tree w (map (option_map (λ ws. widened ws more)) (leaf_rows p ls))) h.spare
      ∙ ap (λ v. widened_tree v w (w - v.width)) e
