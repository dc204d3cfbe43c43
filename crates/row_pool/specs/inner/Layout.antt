-- How the rows of a pool lie in its block, and what one step changes there.
use Rattle.std.specs.Prelude.{◌≡◌, ℕ, zero, suc, ◌+◌, ◌-◌, ◌*◌, ◌^◌, ◌<◌, ◌≤◌, Bool, true, false}
use Rattle.std.specs.Prelude.{not, ◌&&◌, ◌||◌, ◌==◌, nat_lt, cond, ◌⊎◌, List, [], ◌∷◌, length, take}
use Rattle.std.specs.Prelude.{drop, get_or}
use Rattle.std.specs.FinMap.{empty, insert, len}
use Rattle.word_rows.specs.Words.{widened_words as widened, IsCommon}
use Rattle.row_pool.specs.Pools.{LiveRows, Pool, pool}
use Rattle.row_pool.specs.declared.pool.RowPool.TheInside.{Inside}

-- the words of the i-th row of w words
abbrev pub row_in : List ℕ → ℕ → ℕ → List ℕ
row_in ws w i = take w (drop (i * w) ws)

-- the words reach to the end of the i-th row
abbrev pub IsRow : ℕ → ℕ → List ℕ → Type 0
IsRow w i ws = i * w + w ≤ length ws

-- n rows from h on, each with the number of the next in its first word
abbrev pub chain : List ℕ → ℕ → ℕ → ℕ → List ℕ
chain ws w zero h = []
chain ws w (suc n) h = h ∷ chain ws w n (get_or ws (h * w) 0)

-- the number is one of these
abbrev pub has : ℕ → List ℕ → Bool
has q [] = false
has q (f ∷ fs) = (q == f) || has q fs

-- different numbers below n
abbrev pub distinct_below : ℕ → List ℕ → Bool
distinct_below n [] = true
distinct_below n (f ∷ fs) = nat_lt f n && (not (has f fs) && distinct_below n fs)

-- the rows below n that are not free
unfoldable pub live_rows : List ℕ → ℕ → List ℕ → ℕ → LiveRows
live_rows ws w fs zero = empty
live_rows ws w fs (suc n) =
    let below = live_rows ws w fs n in
    cond (has n fs) below (insert below n (row_in ws w n))

-- only words of the row i differ
pub record Changes (w i : ℕ) (ws vs : List ℕ) : Type 0 where
  pub size : length vs ≡ length ws
  pub others : (k d : ℕ) → (k < i * w) ⊎ (i * w + w ≤ k) → get_or vs k d ≡ get_or ws k d

-- the row i is now xs, and no other word differs
pub record WritesRow (w i : ℕ) (ws vs xs : List ℕ) : Type 0 where
  pub changes : Changes w i ws vs
  pub is : row_in vs w i ≡ xs

-- the row `to` is now the meet of the rows a and b, and no other word differs
pub record Meets (w to a b : ℕ) (ws vs : List ℕ) : Type 0 where
  pub changes : Changes w to ws vs
  pub met : IsCommon (row_in ws w a) (row_in ws w b) (row_in vs w to)

-- the rows below n of vs are those of ws with full words after them
pub record Widens (old new n : ℕ) (ws vs : List ℕ) : Type 0 where
  pub size : n * new ≤ length vs
  pub row : (q : ℕ) → q < n → row_in vs new q ≡ widened (row_in ws old q) (new - old)

-- `total` rows of w words, of which `spare` are free, linked from the row `next` on
pub record IsSoundPool (ws : List ℕ) (w total next spare : ℕ) : Type 0 where
  pub wide : 0 < w
  pub sized : total * w ≤ length ws
  pub short : total < 2 ^ 32
  pub free : distinct_below total (chain ws w spare next) ≡ true
  pub counted : len (live_rows ws w (chain ws w spare next) total) + spare ≡ total

-- the pool that these fields stand for: its live rows are those that are not linked as free
abbrev pub pool_of : Inside → Pool
pool_of a =
    pool a.width
    (live_rows a.storage a.width (chain a.storage a.width a.spare a.next) a.total)
    a.spare

-- the fields of a pool fit together
abbrev pub IsPool : Inside → Type 0
IsPool a = IsSoundPool a.storage a.width a.total a.next a.spare
