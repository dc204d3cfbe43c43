-- The rows of a tree in its pool. A place is 0 for a row to work in, 1 to 63 for the inner rows,
-- 64 to 127 for the leaves, 128 for the other row to work in, and 129 for the row that stays full.
use Rattle.std.specs.Prelude.{◌≡◌, ◌≢◌, ℕ, ◌+◌, ◌-◌, ◌*◌, ◌<◌, ◌≤◌, Bool, true, ◌||◌, ◌==◌, nat_lt}
use Rattle.std.specs.Prelude.{cond, List, length, map, get_or, Option, None, is_some}
use Rattle.std.specs.Prelude.{unwrap_or, count_by}
use Rattle.std.specs.Option.{option_map}
use Rattle.std.specs.FinMap.{len}
use Rattle.row_pool.specs.Pools.{Pool, IsLive, row_at}
use Rattle.word_rows.specs.Words.{IsCommon, full_words as full}
use Rattle.day_partitions.specs.inner.Trees.{TreeState, tree}

-- the id at a place, where the full row stands for each missing leaf
unfoldable pub id_at : List ℕ → List (Option ℕ) → ℕ → ℕ
id_at nodes leaves n =
    cond (nat_lt n 64) (get_or nodes n 0)
    (cond (nat_lt n 128) (unwrap_or (get_or leaves (n - 64) None) (get_or nodes 65 0))
    (get_or nodes (n - 64) 0))

-- the place has a row of its own
unfoldable pub owns_row : List (Option ℕ) → ℕ → Bool
owns_row leaves n =
    nat_lt n 64 || (cond (nat_lt n 128) (is_some (get_or leaves (n - 64) None)) (n == 128))

-- each place has a live row of the pool's width, and those with a row of their own share it with
-- no other; the last row is full
pub record AreRows (p : Pool) (nodes : List ℕ) (leaves : List (Option ℕ)) : Type 0 where
  pub all_nodes : length nodes ≡ 66
  pub all_leaves : length leaves ≡ 64
  pub live : (n : ℕ) → n < 130 → IsLive p (id_at nodes leaves n)
  pub apart : (m n : ℕ) → m < 130 → n < 130 → owns_row leaves m ≡ true → m ≢ n
      → id_at nodes leaves m ≢ id_at nodes leaves n
  pub long : (n : ℕ) → n < 130 → length (row_at p (id_at nodes leaves n)) ≡ p.width
  pub blank : row_at p (id_at nodes leaves 129) ≡ full p.width
  pub counted : len p.rows ≡ 66 + count_by is_some leaves

-- each inner row but k is the meet of the two below it
abbrev pub AreMetBut : Pool → List ℕ → List (Option ℕ) → ℕ → Type 0
AreMetBut p nodes leaves k =
    (m : ℕ) → 1 ≤ m → m < 64 → m ≢ k
    → IsCommon (row_at p (id_at nodes leaves (2 * m))) (row_at p (id_at nodes leaves (2 * m + 1)))
    (row_at p (id_at nodes leaves m))

-- the ids have their rows, and each inner row but k is the meet of the two below it
pub record IsTreeBut (p : Pool) (nodes : List ℕ) (leaves : List (Option ℕ)) (k : ℕ) : Type 0 where
  pub rows : AreRows p nodes leaves
  pub met : AreMetBut p nodes leaves k

-- no row but inner ones has changed
pub record ChangesInner (p : Pool) (nodes : List ℕ) (leaves : List (Option ℕ)) (q : Pool)
    : Type 0 where
  pub width : q.width ≡ p.width
  pub spare : q.spare ≡ p.spare
  pub same : (n : ℕ) → 64 ≤ n → n < 130
      → row_at q (id_at nodes leaves n) ≡ row_at p (id_at nodes leaves n)

-- the words of each leaf
abbrev pub leaf_rows : Pool → List (Option ℕ) → List (Option (List ℕ))
leaf_rows p leaves = map (option_map (row_at p)) leaves

-- the pool, the ids of the nodes and those of the leaves fit together
pub record IsTree (p : Pool) (nodes : List ℕ) (leaves : List (Option ℕ)) : Type 0 where
  pub rows : AreRows p nodes leaves
  pub met : AreMetBut p nodes leaves 0

-- the tree that these fields stand for
abbrev pub tree_of : Pool → List (Option ℕ) → TreeState
tree_of p leaves = tree p.width (leaf_rows p leaves) p.spare

-- 66 rows of this width were taken, each full and with an id of its own, and no other is live
pub record AreMade (width : ℕ) (p : Pool) (ids : List ℕ) : Type 0 where
  pub count : length ids ≡ 66
  pub width_is : p.width ≡ width
  pub spare : p.spare ≡ 0
  pub live : (n : ℕ) → n < 66 → IsLive p (get_or ids n 0)
  pub apart : (m n : ℕ) → m < 66 → n < 66 → m ≢ n → get_or ids m 0 ≢ get_or ids n 0
  pub full_rows : (n : ℕ) → n < 66 → row_at p (get_or ids n 0) ≡ full width
  pub counted : len p.rows ≡ 66
