-- What each step on a leaf makes of the whole tree.
use Rattle.std.proofs.lemmas.List.Sums.{sum_by-cons}
use Rattle.std.proofs.Common.{◌≡◌, ℕ, suc, ◌+◌, ◌-◌, ◌/◌, ◌<◌, ◌≤◌, inl, inr, true, cond, List, [], ◌∷◌, length, map, count_by, get_or, set, Option, Some, None, is_some, IsSome, IsNone, unwrap_or, refl, sym, ap, ◌∙◌, arith, subst}
use Rattle.std.proofs.lemmas.Bool.{cases_lt, false≢true, true≢false}
use Rattle.std.proofs.lemmas.List.{get_or-set_same, get_or-set_other, get_or_past, length-map}
use Rattle.std.specs.Option.{option_map}
use Rattle.std.specs.FinMap.{get}
use Rattle.word_rows.specs.Words.{IsCommon}
use Rattle.row_pool.specs.Pools.{Pool, row_at, with_row, with_row_taken, without_row}
use Rattle.row_pool.proofs.CallerLemmas.{row_at-same}
use Rattle.day_partitions.specs.inner.Trees.{TreeState, tree, IsMetLeaf, leaf_words}
use Rattle.day_partitions.specs.inner.Nodes.{id_at, owns_row, AreRows, AreMetBut, ChangesInner, IsTree, leaf_rows, tree_of}
use Rattle.day_partitions.proofs.PlaceLemmas.{id_inner, own_inner}
use Rattle.day_partitions.proofs.ClimbLemmas.{common_of, rows_with, row_stays}
use Rattle.day_partitions.proofs.LeafLemmas.{KeepsRows, get_rows, leaves_stay, met_but, leaf_changed, filled, leaf_put, leaf_removed, other_row, swapped_nodes, swapped_leaves, swapped_leaf, swapped_other, swapped_mine, rows_swapped, id_there}

none_of : (f : ℕ → List ℕ) (o : Option ℕ) → IsNone (option_map f o) → o ≡ None
none_of f None h = refl
none_of f (Some x) h = absurd (true≢false h)

some_of : (f : ℕ → List ℕ) (o : Option ℕ) → IsSome (option_map f o) → IsSome o
some_of f None h = h
some_of f (Some x) h = refl

-- a leaf that a contract does not see is missing
pub leaf_none : (p : Pool) (ls : List (Option ℕ)) (t : TreeState) (k : ℕ) → tree_of p ls ≡ t → IsNone (get_or t.leaves k None) → get_or ls k None ≡ None
leaf_none p ls t k e h = none_of (row_at p) (get_or ls k None) (subst (λ o. IsNone o) (ap (λ u. get_or u.leaves k None) (sym e) ∙ get_rows (row_at p) ls k) h)

pub leaf_some : (p : Pool) (ls : List (Option ℕ)) (t : TreeState) (k : ℕ) → tree_of p ls ≡ t → IsSome (get_or t.leaves k None) → IsSome (get_or ls k None)
leaf_some p ls t k e h = some_of (row_at p) (get_or ls k None) (subst (λ o. IsSome o) (ap (λ u. get_or u.leaves k None) (sym e) ∙ get_rows (row_at p) ls k) h)

pub leaf_within : (p : Pool) (nodes : List ℕ) (ls : List (Option ℕ)) (t : TreeState) (k : ℕ) → IsTree p nodes ls → tree_of p ls ≡ t → IsSome (get_or t.leaves k None) → k < 64
leaf_within p nodes ls t k h e there = elim (cases_lt k 64) [
  | inl below ↦ below
  | inr past ↦ absurd (false≢true (sym (ap is_some (get_or_past ls k None (omega (arith, h.rows.all_leaves)))) ∙ leaf_some p ls t k e there))
]

-- the leaf k has these words now, and the rows above it are to be met again
pub record IsChanged (p : Pool) (ls : List (Option ℕ)) (k : ℕ) (v : Option (List ℕ)) (q : Pool) (jds : List ℕ) (ms : List (Option ℕ)) : Type 0 where
  pub rows : AreRows q jds ms
  pub met : AreMetBut q jds ms ((64 + k) / 2)
  pub leaves : leaf_rows q ms ≡ set (leaf_rows p ls) k v
  pub width : q.width ≡ p.width

changed_by : (p q : Pool) (nodes jds : List ℕ) (ls ms : List (Option ℕ)) (k : ℕ) (v : Option (List ℕ)) → k < 64 → IsTree p nodes ls → KeepsRows p nodes ls k q jds ms → q.width ≡ p.width → option_map (row_at q) (get_or ms k None) ≡ v → IsChanged p ls k v q jds ms
changed_by p q nodes jds ls ms k v below t h width e =
    record {
      rows = h.rows;
      met = met_but p q nodes jds ls ms k below h t.met;
      leaves = leaf_changed p q nodes jds ls ms k below t.rows.all_leaves h ∙ ap (set (leaf_rows p ls) k) e;
      width = width;
    }

module _ (p q : Pool) (nodes : List ℕ) (ls ms : List (Option ℕ)) (k : ℕ) (t : IsTree p nodes ls) (below : k < 64) where
  pub put_is : (s : Pool) (x : ℕ) (words : List ℕ) → get_or ls k None ≡ None → get p.rows x ≡ None → length words ≡ p.width → s ≡ with_row_taken p x → q ≡ with_row s x words → ms ≡ set ls k (Some x) → IsChanged p ls k (Some words) q nodes ms
  put_is s x words none new long es e em =
      let f = filled p nodes ls k x words in
      let h = leaf_put p nodes ls k x words t.rows below none new long in
      let at : option_map (row_at f) (get_or (set ls k (Some x)) k None) ≡ Some words =
      ap (option_map (row_at f)) (get_or-set_same ls k (Some x) None (omega (arith, t.rows.all_leaves))) ∙ ap Some (row_at-same (with_row_taken p x) x words) in
      let is : q ≡ f = e ∙ ap (λ r. with_row r x words) es in
      subst (λ m. IsChanged p ls k (Some words) q nodes m) (sym em) (subst (λ r. IsChanged p ls k (Some words) r nodes (set ls k (Some x))) (sym is)
      (changed_by p f nodes nodes ls (set ls k (Some x)) k (Some words) below t h refl at))

  pub removed_is : (z : ℕ) → get_or ls k None ≡ Some z → q ≡ without_row p z → ms ≡ set ls k None → IsChanged p ls k None q nodes ms
  removed_is z there e em =
      let r = without_row p z in
      let at : option_map (row_at r) (get_or (set ls k None) k None) ≡ None = ap (option_map (row_at r)) (get_or-set_same ls k None None (omega (arith, t.rows.all_leaves))) in
      subst (λ m. IsChanged p ls k None q nodes m) (sym em) (subst (λ s. IsChanged p ls k None s nodes (set ls k None)) (sym e)
      (changed_by p r nodes nodes ls (set ls k None) k None below t (leaf_removed p nodes ls k z t.rows below there) refl at))

module _ (p : Pool) (nodes : List ℕ) (ls : List (Option ℕ)) (k z : ℕ) (words met : List ℕ) (t : IsTree p nodes ls) (below : k < 64) (there : get_or ls k None ≡ Some z) where
  abbrev y : ℕ
  y = other_row p nodes ls k z t.rows below there

  abbrev jds : List ℕ
  jds = swapped_nodes p nodes ls k z t.rows below there

  abbrev ks : List (Option ℕ)
  ks = swapped_leaves p nodes ls k z t.rows below there

  abbrev first : ℕ
  first = get_or nodes 0 0

  abbrev one : Pool
  one = with_row p first words

  abbrev two : Pool
  two = with_row one y met

  first_at : id_at jds ks 0 ≡ first
  first_at = swapped_other p nodes ls k z t.rows below there 0 (λ e. omega arith) (λ e. omega arith) ∙ id_inner nodes ls 0 (omega arith)

  leaf_at : id_at jds ks (64 + k) ≡ y
  leaf_at = swapped_leaf p nodes ls k z t.rows below there

  rows_one : length words ≡ p.width → AreRows one jds ks
  rows_one long = subst (λ i. AreRows (with_row p i words) jds ks) first_at (rows_with p jds ks 0 words (rows_swapped p nodes ls k z t.rows below there) (omega arith) (own_inner ks 0 (omega arith)) long)

  mine : owns_row ks (64 + k) ≡ true
  mine = swapped_mine p nodes ls k z t.rows below there

  rows_two : length words ≡ p.width → length met ≡ p.width → AreRows two jds ks
  rows_two long lm = subst (λ i. AreRows (with_row one i met) jds ks) leaf_at (rows_with one jds ks (64 + k) met (rows_one long) (omega arith) mine lm)

  keeps_two : length words ≡ p.width → length met ≡ p.width → KeepsRows p nodes ls k two jds ks
  keeps_two long lm =
      let s = rows_swapped p nodes ls k z t.rows below there in
      record {
        rows = rows_two long lm;
        ids = λ n other. get_or-set_other ls k n (Some y) None other;
        same = λ n low high other.
            subst (λ i. row_at (with_row one i met) (id_at jds ks n) ≡ row_at one (id_at jds ks n)) leaf_at (row_stays one jds ks (64 + k) n met (rows_one long) (omega arith) (omega arith) mine other)
            ∙ subst (λ i. row_at (with_row p i words) (id_at jds ks n) ≡ row_at p (id_at jds ks n)) first_at (row_stays p jds ks 0 n words s (omega arith) (omega arith) (own_inner ks 0 (omega arith)) (λ e. omega arith))
            ∙ ap (row_at p) (swapped_other p nodes ls k z t.rows below there n other (λ e. omega arith));
      }

  met_two : length words ≡ p.width → length met ≡ p.width → IsChanged p ls k (Some met) two jds ks
  met_two long lm =
      changed_by p two nodes jds ls ks k (Some met) below t (keeps_two long lm) refl
      (ap (option_map (row_at two)) (get_or-set_same ls k (Some y) None (omega (arith, t.rows.all_leaves))) ∙ ap Some (row_at-same one y met))

-- the tree after the rows above the leaf were met again
pub view_is : (p q r : Pool) (ls ms : List (Option ℕ)) (jds : List ℕ) (k spare : ℕ) (v : Option (List ℕ)) (t : TreeState) → IsChanged p ls k v q jds ms → ChangesInner q jds ms r → tree_of p ls ≡ t → q.spare ≡ spare → tree_of r ms ≡ tree t.width (set t.leaves k v) spare
view_is p q r ls ms jds k spare v t c h e es =
    let width : r.width ≡ t.width = h.width ∙ c.width ∙ ap (λ u. u.width) e in
    let leaves : leaf_rows r ms ≡ set t.leaves k v = leaves_stay q r jds ms c.rows.all_leaves h ∙ c.leaves ∙ ap (λ u. set u.leaves k v) e in
    let left : r.spare ≡ spare = h.spare ∙ es in
    ap (λ w. tree w (leaf_rows r ms) r.spare) width ∙ ap (λ l. tree t.width l r.spare) leaves ∙ ap (tree t.width (set t.leaves k v)) left

-- the leaf k, whose id was z, was met with words, which stand in the first working row, into the
-- second, whose id was x
module _ (p : Pool) (nodes : List ℕ) (ls : List (Option ℕ)) (k z : ℕ) (words : List ℕ) (t : IsTree p nodes ls) (below : k < 64) (there : get_or ls k None ≡ Some z) (long : length words ≡ p.width) where
  pub words_written : (q : Pool) (f : ℕ) → f ≡ get_or nodes 0 0 → q ≡ with_row p f words → q ≡ with_row p (get_or nodes 0 0) words
  words_written q f ef e = e ∙ ap (λ i. with_row p i words) ef

  pub met_common : (q r : Pool) (f x : ℕ) → f ≡ get_or nodes 0 0 → q ≡ with_row p (get_or nodes 0 0) words → IsCommon (row_at q z) (row_at q f) (row_at r x) → IsCommon (row_at p z) words (row_at r x)
  met_common q r f x ef e m =
      let was = id_there nodes ls k z below there in
      let leaf : row_at q z ≡ row_at p z =
      ap (λ s. row_at s z) e ∙ subst (λ i. row_at (with_row p (get_or nodes 0 0) words) i ≡ row_at p i) was
      (subst (λ i. row_at (with_row p i words) (id_at nodes ls (64 + k)) ≡ row_at p (id_at nodes ls (64 + k))) (id_inner nodes ls 0 (omega arith)) (row_stays p nodes ls 0 (64 + k) words t.rows (omega arith) (omega arith) (own_inner ls 0 (omega arith)) (λ e. omega arith))) in
      let first : row_at q f ≡ words = ap (row_at q) ef ∙ ap (λ s. row_at s (get_or nodes 0 0)) e ∙ row_at-same p (get_or nodes 0 0) words in
      common_of _ _ _ _ _ _ (sym leaf) (sym first) refl m

  pub met_changed : (q r : Pool) (x : ℕ) (gs : List ℕ) (ms : List (Option ℕ)) → x ≡ get_or nodes 64 0 → q ≡ with_row p (get_or nodes 0 0) words → r ≡ with_row q x (row_at r x) → IsCommon (row_at p z) words (row_at r x) → gs ≡ set nodes 64 z → ms ≡ set ls k (Some (get_or nodes 64 0)) → IsChanged p ls k (Some (row_at r x)) r gs ms
  met_changed q r x gs ms ex eq er m eg em =
      let w = row_at r x in
      let was = id_there nodes ls k z below there in
      let wide : length w ≡ p.width = m.width ∙ ap (λ i. length (row_at p i)) (sym was) ∙ t.rows.long (64 + k) (omega arith) in
      let h = met_two p nodes ls k z words w t below there long wide in
      let is : r ≡ with_row (with_row p (get_or nodes 0 0) words) (get_or nodes 64 0) w = er ∙ ap (λ i. with_row q i w) ex ∙ ap (λ s. with_row s (get_or nodes 64 0) w) eq in
      subst (λ l. IsChanged p ls k (Some w) r l ms) (sym eg) (subst (λ l. IsChanged p ls k (Some w) r (set nodes 64 z) l) (sym em)
      (subst (λ s. IsChanged p ls k (Some w) s (set nodes 64 z) (set ls k (Some (get_or nodes 64 0)))) (sym is) h))

  pub met_is : (q r : Pool) (f x e : ℕ) (gs : List ℕ) (ms : List (Option ℕ)) → f ≡ get_or nodes 0 0 → q ≡ with_row p f words → x ≡ get_or nodes 64 0 → e ≡ get_or nodes 0 0 → r ≡ with_row q x (row_at r x) → IsCommon (row_at q z) (row_at q e) (row_at r x) → gs ≡ set nodes 64 z → ms ≡ set ls k (Some (get_or nodes 64 0)) → IsCommon (row_at p z) words (row_at r x) × IsChanged p ls k (Some (row_at r x)) r gs ms
  met_is q r f x e gs ms ef eq ex ee er m eg em =
      let written = words_written q f ef eq in
      let common = met_common q r e x ee written m in
      (common, met_changed q r x gs ms ex written er common eg em)

  pub met_leaf : (q r : Pool) (w gs : List ℕ) (ms : List (Option ℕ)) (u : TreeState) → IsChanged p ls k (Some w) q gs ms → ChangesInner q gs ms r → tree_of p ls ≡ u → q.spare ≡ p.spare → IsCommon (row_at p z) words w → IsMetLeaf u k words (tree_of r ms)
  met_leaf q r w gs ms u c h e es m =
      let is : tree_of r ms ≡ tree u.width (set u.leaves k (Some w)) u.spare = view_is p q r ls ms gs k u.spare (Some w) u c h e (es ∙ ap (λ v. v.spare) e) in
      let size : length u.leaves ≡ 64 = sym (ap (λ v. length v.leaves) e) ∙ length-map ls (option_map (row_at p)) ∙ t.rows.all_leaves in
      let old : leaf_words u.leaves k ≡ row_at p z = ap (λ v. leaf_words v.leaves k) (sym e) ∙ ap (λ o. unwrap_or o []) (get_rows (row_at p) ls k ∙ ap (option_map (row_at p)) there) in
      let new : leaf_words (tree_of r ms).leaves k ≡ w = ap (λ v. leaf_words v.leaves k) is ∙ ap (λ o. unwrap_or o []) (get_or-set_same u.leaves k (Some w) None (omega (arith, size))) in
      record {
        met = common_of _ _ _ _ _ _ old refl new m;
        others = is ∙ ap (λ l. tree u.width (set u.leaves k (Some l)) u.spare) (sym new);
      }

-- ---- how many leaves are there
abbrev one_if_some : {X : Type 0} → Option X → ℕ
one_if_some o = cond (is_some o) 1 0

pub count_rows : {A B : Type 0} (f : A → B) (ls : List (Option A)) → count_by is_some (map (option_map f) ls) ≡ count_by is_some ls
count_rows f [] = refl
count_rows f (None ∷ ls) = omega (arith, sum_by-cons one_if_some None (map (option_map f) ls), count_rows f ls, sum_by-cons one_if_some None ls)
count_rows f (Some x ∷ ls) = omega (arith, sum_by-cons one_if_some (Some (f x)) (map (option_map f) ls), count_rows f ls, sum_by-cons one_if_some (Some x) ls)

pub count_all : (ls : List (Option ℕ)) (n : ℕ) → length ls ≤ n → ((k : ℕ) → k < n → is_some (get_or ls k None) ≡ true) → count_by is_some ls ≡ length ls
count_all [] n l h = refl
count_all (o ∷ ls) n l h =
    let here : one_if_some o ≡ 1 = ap (λ b. cond b 1 0) (h 0 (omega arith)) in
    let rest = count_all ls (n - 1) (omega arith) (λ k m. h (suc k) (omega arith)) in
    omega (arith, sum_by-cons one_if_some o ls, here, rest)
