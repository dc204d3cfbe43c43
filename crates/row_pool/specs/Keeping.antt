-- What is promised of a pool's map, over the definitions alone.
use Rattle.std.specs.Prelude.{◌≡◌, ◌≢◌, ℕ, List, None}
use Rattle.std.specs.FinMap.{get}
use Rattle.word_rows.specs.Words.{full_words as full}
use Rattle.row_pool.specs.Pools.{Pool, row_at, with_row, with_row_taken, without_row}

-- a written row has these words, a taken one is full, and one that is given back is not live
abbrev pub OneRowChanges : Type 0
OneRowChanges =
    (p : Pool) (id : ℕ) (words : List ℕ) →
    (row_at (with_row p id words) id ≡ words)
    × (row_at (with_row_taken p id) id ≡ full p.width)
    × (get (without_row p id).rows id ≡ None)

-- every other row stays live or not, with its words
abbrev pub OtherRowsStay : Type 0
OtherRowsStay =
    (p : Pool) (id : ℕ) (words : List ℕ) (other : ℕ) → other ≢ id →
    (get (with_row p id words).rows other ≡ get p.rows other)
    × (get (with_row_taken p id).rows other ≡ get p.rows other)
    × (get (without_row p id).rows other ≡ get p.rows other)
