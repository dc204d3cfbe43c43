-- What a tree has after one leaf was given a row, met or given up.
use Rattle.std.proofs.Common.{◌≡◌, ◌≢◌, ℕ, zero, suc, ◌+◌, ◌-◌, ◌*◌, ◌/◌, ◌<◌, ◌≤◌, inl, inr, true, false, List, [], ◌∷◌, length, map, get_or, set, Option, Some, None, is_some, unwrap_or, cond, refl, sym, ap, ◌∙◌, arith, subst, length-set}
use Rattle.std.proofs.lemmas.Bool.{cases_eq, cases_lt, false≢true}
use Rattle.std.proofs.lemmas.List.{ext_get_or, length-map, get_or-set_same, get_or-set_other}
use Rattle.std.proofs.lemmas.List.Sums.{sum_by-set}
use Rattle.std.specs.Option.{option_map}
use Rattle.std.specs.FinMap.{get, insert}
use Rattle.word_rows.specs.Words.{full_words as full}
use Rattle.row_pool.specs.Pools.{Pool, IsLive, row_at, with_row, with_row_taken, without_row}
use Rattle.row_pool.proofs.CallerLemmas.{row_at-same, live-insert_same, apart-new}
use Rattle.row_pool.proofs.MapLemmas.{get-insert_other, get-remove_other, len-insert_new, len-insert_old, len-remove_old}
use Rattle.day_partitions.specs.inner.Nodes.{id_at, owns_row, AreRows, AreMetBut, ChangesInner, leaf_rows}
use Rattle.day_partitions.proofs.PoolLemmas.{row_at-kept, live-kept}
use Rattle.day_partitions.proofs.PlaceLemmas.{id_inner, id_leaf, id_last, own_inner, own_leaf, own_last}
use Rattle.day_partitions.proofs.ClimbLemmas.{common_of}

-- ---- the words of the leaves
pub get_rows : (f : ℕ → List ℕ) (ls : List (Option ℕ)) (k : ℕ) → get_or (map (option_map f) ls) k None ≡ option_map f (get_or ls k None)
get_rows f [] k = refl
get_rows f (o ∷ ls) zero = refl
get_rows f (o ∷ ls) (suc k) = get_rows f ls k

option_agree : (f g : ℕ → List ℕ) (d e : ℕ) (o : Option ℕ) → f (unwrap_or o d) ≡ g (unwrap_or o e) → option_map f o ≡ option_map g o
option_agree f g d e None same = refl
option_agree f g d e (Some x) same = ap Some same

leaf_agree : (p q : Pool) (nodes jds : List ℕ) (ls ms : List (Option ℕ)) (i : ℕ) → i < 64 → get_or ms i None ≡ get_or ls i None → row_at q (id_at jds ms (64 + i)) ≡ row_at p (id_at nodes ls (64 + i)) → option_map (row_at q) (get_or ms i None) ≡ option_map (row_at p) (get_or ls i None)
leaf_agree p q nodes jds ls ms i below at same =
    let back : 64 + i - 64 ≡ i = omega arith in
    let o = get_or ls i None in
    let left : id_at jds ms (64 + i) ≡ unwrap_or o (get_or jds 65 0) = id_leaf jds ms (64 + i) (omega arith) (omega arith) ∙ ap (λ j. unwrap_or (get_or ms j None) (get_or jds 65 0)) back ∙ ap (λ x. unwrap_or x (get_or jds 65 0)) at in
    let right : id_at nodes ls (64 + i) ≡ unwrap_or o (get_or nodes 65 0) = id_leaf nodes ls (64 + i) (omega arith) (omega arith) ∙ ap (λ j. unwrap_or (get_or ls j None) (get_or nodes 65 0)) back in
    ap (option_map (row_at q)) at ∙ option_agree (row_at q) (row_at p) (get_or jds 65 0) (get_or nodes 65 0) o (sym (ap (row_at q) left) ∙ same ∙ ap (row_at p) right)

-- no leaf has changed
pub leaves_stay : (p q : Pool) (nodes : List ℕ) (ls : List (Option ℕ)) → length ls ≡ 64 → ChangesInner p nodes ls q → leaf_rows q ls ≡ leaf_rows p ls
leaves_stay p q nodes ls long h =
    ext_get_or None _ _ (length-map ls (option_map (row_at q)) ∙ sym (length-map ls (option_map (row_at p)))) (λ i l.
    let n = length-map ls (option_map (row_at q)) in
    get_rows (row_at q) ls i ∙ leaf_agree p q nodes nodes ls ls i (omega arith) refl (h.same (64 + i) (omega arith) (omega arith)) ∙ sym (get_rows (row_at p) ls i))

-- all places but that of the leaf k have the rows that they had
pub record KeepsRows (p : Pool) (nodes : List ℕ) (ls : List (Option ℕ)) (k : ℕ) (q : Pool) (jds : List ℕ) (ms : List (Option ℕ)) : Type 0 where
  pub rows : AreRows q jds ms
  pub ids : (n : ℕ) → n ≢ k → get_or ms n None ≡ get_or ls n None
  pub same : (n : ℕ) → 1 ≤ n → n < 128 → n ≢ 64 + k → row_at q (id_at jds ms n) ≡ row_at p (id_at nodes ls n)

pub met_but : (p q : Pool) (nodes jds : List ℕ) (ls ms : List (Option ℕ)) (k : ℕ) → k < 64 → KeepsRows p nodes ls k q jds ms → AreMetBut p nodes ls 0 → AreMetBut q jds ms ((64 + k) / 2)
met_but p q nodes jds ls ms k below h met = λ m low high other.
    common_of _ _ _ _ _ _ (h.same (2 * m) (omega arith) (omega arith) (λ e. other (omega arith))) (h.same (2 * m + 1) (omega arith) (omega arith) (λ e. other (omega arith))) (h.same m low (omega arith) (λ e. omega arith))
    (met m low high (λ e. omega arith))

pub leaf_changed : (p q : Pool) (nodes jds : List ℕ) (ls ms : List (Option ℕ)) (k : ℕ) → k < 64 → length ls ≡ 64 → KeepsRows p nodes ls k q jds ms → leaf_rows q ms ≡ set (leaf_rows p ls) k (option_map (row_at q) (get_or ms k None))
leaf_changed p q nodes jds ls ms k below long h =
    let v = option_map (row_at q) (get_or ms k None) in
    let old = length-map ls (option_map (row_at p)) in
    let new = length-map ms (option_map (row_at q)) in
    ext_get_or None _ _ (new ∙ h.rows.all_leaves ∙ sym long ∙ sym old ∙ sym (length-set (leaf_rows p ls) k v)) (λ i l.
    let within : i < 64 = omega (arith, h.rows.all_leaves) in
    get_rows (row_at q) ms i ∙ elim (cases_eq i k) [
      | inl here ↦ ap (λ j. option_map (row_at q) (get_or ms j None)) here ∙ sym (get_or-set_same (leaf_rows p ls) k v None (omega arith)) ∙ ap (λ j. get_or (set (leaf_rows p ls) k v) j None) (sym here)
      | inr there ↦ leaf_agree p q nodes jds ls ms i within (h.ids i there) (h.same (64 + i) (omega arith) (omega arith) (λ e. there (omega arith))) ∙ sym (get_rows (row_at p) ls i) ∙ sym (get_or-set_other (leaf_rows p ls) k i v None there)
    ])

-- ---- places after one leaf's id was changed
pub id_other : (nodes : List ℕ) (ls : List (Option ℕ)) (k : ℕ) (o : Option ℕ) (n : ℕ) → n ≢ 64 + k → id_at nodes (set ls k o) n ≡ id_at nodes ls n
id_other nodes ls k o n other = elim (cases_lt n 64) [
  | inl low ↦ id_inner nodes (set ls k o) n low ∙ sym (id_inner nodes ls n low)
  | inr high ↦ elim (cases_lt n 128) [
    | inl leaf ↦ id_leaf nodes (set ls k o) n high leaf ∙ ap (λ x. unwrap_or x (get_or nodes 65 0)) (get_or-set_other ls k (n - 64) o None (λ e. other (omega arith))) ∙ sym (id_leaf nodes ls n high leaf)
    | inr last ↦ id_last nodes (set ls k o) n last ∙ sym (id_last nodes ls n last)
  ]
]

pub id_here : (nodes : List ℕ) (ls : List (Option ℕ)) (k : ℕ) (o : Option ℕ) → k < 64 → length ls ≡ 64 → id_at nodes (set ls k o) (64 + k) ≡ unwrap_or o (get_or nodes 65 0)
id_here nodes ls k o below long =
    let back : 64 + k - 64 ≡ k = omega arith in
    id_leaf nodes (set ls k o) (64 + k) (omega arith) (omega arith) ∙ ap (λ j. unwrap_or (get_or (set ls k o) j None) (get_or nodes 65 0)) back ∙ ap (λ x. unwrap_or x (get_or nodes 65 0)) (get_or-set_same ls k o None (omega arith))

pub id_there : (nodes : List ℕ) (ls : List (Option ℕ)) (k x : ℕ) → k < 64 → get_or ls k None ≡ Some x → id_at nodes ls (64 + k) ≡ x
id_there nodes ls k x below e =
    let back : 64 + k - 64 ≡ k = omega arith in
    id_leaf nodes ls (64 + k) (omega arith) (omega arith) ∙ ap (λ j. unwrap_or (get_or ls j None) (get_or nodes 65 0)) back ∙ ap (λ o. unwrap_or o (get_or nodes 65 0)) e

pub own_other : (ls : List (Option ℕ)) (k : ℕ) (o : Option ℕ) (n : ℕ) → n ≢ 64 + k → owns_row (set ls k o) n ≡ owns_row ls n
own_other ls k o n other = elim (cases_lt n 64) [
  | inl low ↦ own_inner (set ls k o) n low ∙ sym (own_inner ls n low)
  | inr high ↦ elim (cases_lt n 128) [
    | inl leaf ↦ own_leaf (set ls k o) n high leaf ∙ ap is_some (get_or-set_other ls k (n - 64) o None (λ e. other (omega arith))) ∙ sym (own_leaf ls n high leaf)
    | inr last ↦ own_last (set ls k o) n last ∙ sym (own_last ls n last)
  ]
]

pub own_here : (ls : List (Option ℕ)) (k : ℕ) (o : Option ℕ) → k < 64 → get_or ls k None ≡ o → owns_row ls (64 + k) ≡ is_some o
own_here ls k o below e =
    let back : 64 + k - 64 ≡ k = omega arith in
    own_leaf ls (64 + k) (omega arith) (omega arith) ∙ ap (λ j. is_some (get_or ls j None)) back ∙ ap is_some e

abbrev weight : Option ℕ → ℕ
weight o = cond (is_some o) 1 0

-- ---- a missing leaf was given a row
module _ (p : Pool) (nodes : List ℕ) (ls : List (Option ℕ)) (k x : ℕ) (words : List ℕ) where
  abbrev pub filled : Pool
  filled = with_row (with_row_taken p x) x words

  get_filled : (i : ℕ) → i ≢ x → get filled.rows i ≡ get p.rows i
  get_filled i other = get-insert_other (insert p.rows x (full p.width)) x words i other ∙ get-insert_other p.rows x (full p.width) i other

  pub leaf_put : AreRows p nodes ls → k < 64 → get_or ls k None ≡ None → get p.rows x ≡ None → length words ≡ p.width → KeepsRows p nodes ls k filled nodes (set ls k (Some x))
  leaf_put r below none new long =
      let l = 64 + k in let ms = set ls k (Some x) in
      let here : id_at nodes ms l ≡ x = id_here nodes ls k (Some x) below r.all_leaves in
      let there : (n : ℕ) → n ≢ l → id_at nodes ms n ≡ id_at nodes ls n = id_other nodes ls k (Some x) in
      let apart : (n : ℕ) → n < 130 → id_at nodes ls n ≢ x = λ n h. apart-new p.rows x (id_at nodes ls n) new (r.live n h) in
      let stays : (n : ℕ) → n < 130 → n ≢ l → row_at filled (id_at nodes ms n) ≡ row_at p (id_at nodes ls n) = λ n h other. ap (row_at filled) (there n other) ∙ row_at-kept p filled _ (get_filled _ (apart n h)) in
      record {
        rows = record {
          all_nodes = r.all_nodes;
          all_leaves = length-set ls k (Some x) ∙ r.all_leaves;
          live = λ n h. elim (cases_eq n l) [
            | inl e ↦ subst (λ i. IsLive filled i) (sym (ap (id_at nodes ms) e ∙ here)) (live-insert_same (insert p.rows x (full p.width)) x words)
            | inr e ↦ subst (λ i. IsLive filled i) (sym (there n e)) (live-kept p filled _ (get_filled _ (apart n h)) (r.live n h))
          ];
          apart = λ m n lm ln mine other. elim (cases_eq m l) [
            | inl e ↦ λ same. apart n ln (sym (there n (λ f. other (e ∙ sym f))) ∙ sym same ∙ ap (id_at nodes ms) e ∙ here)
            | inr e ↦ elim (cases_eq n l) [
              | inl f ↦ λ same. apart m lm (sym (there m e) ∙ same ∙ ap (id_at nodes ms) f ∙ here)
              | inr f ↦ λ same. r.apart m n lm ln (sym (own_other ls k (Some x) m e) ∙ mine) other (sym (there m e) ∙ same ∙ there n f)
            ]
          ];
          long = λ n h. elim (cases_eq n l) [
            | inl e ↦ ap (λ i. length (row_at filled i)) (ap (id_at nodes ms) e ∙ here) ∙ ap length (row_at-same (with_row_taken p x) x words) ∙ long
            | inr e ↦ ap length (stays n h e) ∙ r.long n h
          ];
          blank = stays 129 (omega arith) (λ e. omega arith) ∙ r.blank;
          counted =
              let more = sum_by-set weight ls k (Some x) None (omega (arith, r.all_leaves)) in
              let was : weight (get_or ls k None) ≡ 0 = ap weight none in
              let size = len-insert_old (insert p.rows x (full p.width)) x words (live-insert_same p.rows x (full p.width)) ∙ len-insert_new p.rows x (full p.width) new in
              omega (arith, more, was, size, r.counted);
        };
        ids = λ n other. get_or-set_other ls k n (Some x) None other;
        same = λ n low high other. stays n (omega arith) other;
      }

-- ---- a leaf was given up
module _ (p : Pool) (nodes : List ℕ) (ls : List (Option ℕ)) (k z : ℕ) where
  pub leaf_removed : AreRows p nodes ls → k < 64 → get_or ls k None ≡ Some z → KeepsRows p nodes ls k (without_row p z) nodes (set ls k None)
  leaf_removed r below there_is =
      let q = without_row p z in
      let l = 64 + k in let ms = set ls k None in
      let was : id_at nodes ls l ≡ z = id_there nodes ls k z below there_is in
      let mine : owns_row ls l ≡ true = own_here ls k (Some z) below there_is in
      let here : id_at nodes ms l ≡ id_at nodes ls 129 = id_here nodes ls k None below r.all_leaves ∙ sym (id_last nodes ls 129 (omega arith)) in
      let there : (n : ℕ) → n ≢ l → id_at nodes ms n ≡ id_at nodes ls n = id_other nodes ls k None in
      let apart : (n : ℕ) → n < 130 → n ≢ l → id_at nodes ls n ≢ z = λ n h other e. r.apart l n (omega arith) h mine (λ f. other (sym f)) (was ∙ sym e) in
      let kept : (n : ℕ) → n < 130 → n ≢ l → get q.rows (id_at nodes ls n) ≡ get p.rows (id_at nodes ls n) = λ n h other. get-remove_other p.rows z _ (apart n h other) in
      let stays : (n : ℕ) → n < 130 → n ≢ l → row_at q (id_at nodes ms n) ≡ row_at p (id_at nodes ls n) = λ n h other. ap (row_at q) (there n other) ∙ row_at-kept p q _ (kept n h other) in
      let lost : owns_row ms l ≡ false = own_here ms k None below (get_or-set_same ls k None None (omega (arith, r.all_leaves))) in
      let off : 129 ≢ l = (λ e. omega arith) in
      record {
        rows = record {
          all_nodes = r.all_nodes;
          all_leaves = length-set ls k None ∙ r.all_leaves;
          live = λ n h. elim (cases_eq n l) [
            | inl e ↦ subst (λ i. IsLive q i) (sym (ap (id_at nodes ms) e ∙ here)) (live-kept p q _ (kept 129 (omega arith) off) (r.live 129 (omega arith)))
            | inr e ↦ subst (λ i. IsLive q i) (sym (there n e)) (live-kept p q _ (kept n h e) (r.live n h))
          ];
          apart = λ m n lm ln owned other. elim (cases_eq m l) [
            | inl e ↦ λ same. false≢true (sym lost ∙ sym (ap (owns_row ms) e) ∙ owned)
            | inr e ↦ elim (cases_eq n l) [
              | inl f ↦ λ same. r.apart m 129 lm (omega arith) (sym (own_other ls k None m e) ∙ owned)
                  (λ last. false≢true (sym (own_last ms 129 (omega arith)) ∙ sym (ap (owns_row ms) last) ∙ owned))
                  (sym (there m e) ∙ same ∙ ap (id_at nodes ms) f ∙ here)
              | inr f ↦ λ same. r.apart m n lm ln (sym (own_other ls k None m e) ∙ owned) other (sym (there m e) ∙ same ∙ there n f)
            ]
          ];
          long = λ n h. elim (cases_eq n l) [
            | inl e ↦ ap (λ i. length (row_at q i)) (ap (id_at nodes ms) e ∙ here) ∙ ap length (row_at-kept p q _ (kept 129 (omega arith) off)) ∙ r.long 129 (omega arith)
            | inr e ↦ ap length (stays n h e) ∙ r.long n h
          ];
          blank = stays 129 (omega arith) off ∙ r.blank;
          counted =
              let less = sum_by-set weight ls k None None (omega (arith, r.all_leaves)) in
              let one : weight (get_or ls k None) ≡ 1 = ap weight there_is in
              let size = len-remove_old p.rows z (subst (λ i. IsLive p i) was (r.live l (omega arith))) in
              omega (arith, less, one, size, r.counted);
        };
        ids = λ n other. get_or-set_other ls k n None None other;
        same = λ n low high other. stays n (omega arith) other;
      }

-- ---- the ids of a leaf and of the second working row change places
data Stood (k n m : ℕ) : Type 0 where
  leaf : n ≡ 64 + k → m ≡ 128 → Stood k n m
  working : n ≡ 128 → m ≡ 64 + k → Stood k n m
  elsewhere : n ≢ 64 + k → n ≢ 128 → m ≡ n → Stood k n m

stood : (k n : ℕ) → (m : ℕ) × Stood k n m
stood k n = elim (cases_eq n (64 + k)) [
  | inl a ↦ (128, leaf a refl)
  | inr a ↦ elim (cases_eq n 128) [ inl b ↦ (64 + k, working b refl) | inr b ↦ (n, elsewhere a b refl) ]
]

stood_within : (k n m : ℕ) → k < 64 → n < 130 → Stood k n m → m < 130
stood_within k n m l h (leaf a b) = omega arith
stood_within k n m l h (working a b) = omega arith
stood_within k n m l h (elsewhere a b e) = omega arith

stood_once : (k n m i j : ℕ) → k < 64 → Stood k n m → Stood k i j → m ≡ j → n ≡ i
stood_once k n m i j l (leaf a b) (leaf c d) e = omega arith
stood_once k n m i j l (leaf a b) (working c d) e = omega arith
stood_once k n m i j l (leaf a b) (elsewhere c d f) e = absurd (d (omega arith))
stood_once k n m i j l (working a b) (leaf c d) e = omega arith
stood_once k n m i j l (working a b) (working c d) e = omega arith
stood_once k n m i j l (working a b) (elsewhere c d f) e = absurd (c (omega arith))
stood_once k n m i j l (elsewhere a b f) (leaf c d) e = absurd (b (omega arith))
stood_once k n m i j l (elsewhere a b f) (working c d) e = absurd (a (omega arith))
stood_once k n m i j l (elsewhere a b f) (elsewhere c d g) e = omega arith

module _ (p : Pool) (nodes : List ℕ) (ls : List (Option ℕ)) (k z : ℕ) (r : AreRows p nodes ls) (below : k < 64) (there_is : get_or ls k None ≡ Some z) where
  abbrev pub other_row : ℕ
  other_row = get_or nodes 64 0

  abbrev pub swapped_nodes : List ℕ
  swapped_nodes = set nodes 64 z

  abbrev pub swapped_leaves : List (Option ℕ)
  swapped_leaves = set ls k (Some other_row)

  pub other_row_at : id_at nodes ls 128 ≡ other_row
  other_row_at = id_last nodes ls 128 (omega arith)

  pub swapped_leaf : id_at swapped_nodes swapped_leaves (64 + k) ≡ other_row
  swapped_leaf = id_here swapped_nodes ls k (Some other_row) below r.all_leaves

  pub swapped_other : (n : ℕ) → n ≢ 64 + k → n ≢ 128 → id_at swapped_nodes swapped_leaves n ≡ id_at nodes ls n
  swapped_other n a b =
      let same : (i : ℕ) → i ≢ 64 → get_or swapped_nodes i 0 ≡ get_or nodes i 0 = λ i f. get_or-set_other nodes 64 i z 0 f in
      id_other swapped_nodes ls k (Some other_row) n a ∙ elim (cases_lt n 64) [
        | inl low ↦ id_inner swapped_nodes ls n low ∙ same n (λ e. omega arith) ∙ sym (id_inner nodes ls n low)
        | inr high ↦ elim (cases_lt n 128) [
          | inl at ↦ id_leaf swapped_nodes ls n high at ∙ ap (unwrap_or (get_or ls (n - 64) None)) (same 65 (λ e. omega arith)) ∙ sym (id_leaf nodes ls n high at)
          | inr last ↦ id_last swapped_nodes ls n last ∙ same (n - 64) (λ e. b (omega arith)) ∙ sym (id_last nodes ls n last)
        ]
      ]

  swapped_at : (n m : ℕ) → Stood k n m → id_at swapped_nodes swapped_leaves n ≡ id_at nodes ls m
  swapped_at n m (leaf a b) = ap (id_at swapped_nodes swapped_leaves) a ∙ swapped_leaf ∙ sym other_row_at ∙ ap (id_at nodes ls) (sym b)
  swapped_at n m (working a b) =
      ap (id_at swapped_nodes swapped_leaves) a ∙ id_last swapped_nodes swapped_leaves 128 (omega arith) ∙ get_or-set_same nodes 64 z 0 (omega (arith, r.all_nodes))
      ∙ sym (id_there nodes ls k z below there_is) ∙ ap (id_at nodes ls) (sym b)
  swapped_at n m (elsewhere a b e) = swapped_other n a b ∙ ap (id_at nodes ls) (sym e)

  swapped_own : (n m : ℕ) → Stood k n m → owns_row swapped_leaves n ≡ true → owns_row ls m ≡ true
  swapped_own n m (leaf a b) h = ap (owns_row ls) b ∙ own_last ls 128 (omega arith)
  swapped_own n m (working a b) h = ap (owns_row ls) b ∙ own_here ls k (Some z) below there_is
  swapped_own n m (elsewhere a b e) h = ap (owns_row ls) e ∙ sym (own_other ls k (Some other_row) n a) ∙ h

  pub swapped_mine : owns_row swapped_leaves (64 + k) ≡ true
  swapped_mine = own_here swapped_leaves k (Some other_row) below (get_or-set_same ls k (Some other_row) None (omega (arith, r.all_leaves)))

  -- ids that change places keep all that rows have
  pub rows_swapped : AreRows p swapped_nodes swapped_leaves
  rows_swapped =
      record {
        all_nodes = length-set nodes 64 z ∙ r.all_nodes;
        all_leaves = length-set ls k (Some other_row) ∙ r.all_leaves;
        live = λ n l. let m = stood k n in subst (λ i. IsLive p i) (sym (swapped_at n m.0 m.1)) (r.live m.0 (stood_within k n m.0 below l m.1));
        apart = λ n i ln li mine other e.
            let m = stood k n in let j = stood k i in
            r.apart m.0 j.0 (stood_within k n m.0 below ln m.1) (stood_within k i j.0 below li j.1) (swapped_own n m.0 m.1 mine) (λ same. other (stood_once k n m.0 i j.0 below m.1 j.1 same))
            (sym (swapped_at n m.0 m.1) ∙ e ∙ swapped_at i j.0 j.1);
        long = λ n l. let m = stood k n in ap (λ i. length (row_at p i)) (swapped_at n m.0 m.1) ∙ r.long m.0 (stood_within k n m.0 below l m.1);
        blank = ap (row_at p) (swapped_other 129 (λ e. omega arith) (λ e. omega arith)) ∙ r.blank;
        counted =
            let same = sum_by-set weight ls k (Some other_row) None (omega (arith, r.all_leaves)) in
            let one : weight (get_or ls k None) ≡ 1 = ap weight there_is in
            omega (arith, same, one, r.counted);
      }
