-- What a contract sees of a pool.
use Rattle.std.specs.Prelude.{◌≡◌, ℕ, ◌+◌, ◌-◌, max, List, [], Option, Some, None, IsSome, refl}
use Rattle.std.specs.Option.{option_map}
use Rattle.std.specs.Ordering.{nat_cmp}
use Rattle.std.specs.FinMap.{FinMap, get, insert, remove, code}
use Rattle.std.specs.Coded.{Coded, code_by, coded×, coded_ℕ, coded_list}
use Rattle.word_rows.specs.Words.{full_words as full, widened_words as widened, IsCommon}

-- the words of each live row, by the number of its id
abbrev pub LiveRows : Type 0
LiveRows = FinMap nat_cmp (List ℕ)

-- how many words of 64 bits a row has, the live rows, and how many rows are spare
pub record Pool : Type 0 where
  pub width : ℕ
  pub rows : LiveRows
  pub spare : ℕ

-- a pool is stored as the triple of its fields
abbrev pub pool_code : Coded Pool
pool_code =
    code_by (ℕ × (LiveRows × ℕ))
    (coded× coded_ℕ (coded× (code coded_ℕ (coded_list coded_ℕ)) coded_ℕ))
    (λ p. (p.width, (p.rows, p.spare)))
    (λ t. record { width = t.0; rows = t.1.0; spare = t.1.1 })
    (λ _. refl)

-- the pool with these fields
abbrev pub pool : ℕ → LiveRows → ℕ → Pool
pool width rows spare = record { width = width; rows = rows; spare = spare }

-- the id names a row that was taken and not given back
abbrev pub IsLive : Pool → ℕ → Type 0
IsLive p id = IsSome (get p.rows id)

-- the words, or the empty list where there are none
abbrev pub words_or_none : Option (List ℕ) → List ℕ
words_or_none None = []
words_or_none (Some words) = words

-- the words of a live row
unfoldable pub row_at : Pool → ℕ → List ℕ
row_at p id = words_or_none (get p.rows id)

-- the pool with these words in one row, and all other rows as they are
abbrev pub with_row : Pool → ℕ → List ℕ → Pool
with_row p id words = pool p.width (insert p.rows id words) p.spare

-- the row `to` of q is the meet of the rows a and b of p
abbrev pub IsMet : Pool → ℕ → ℕ → Pool → ℕ → Type 0
IsMet p a b q to = IsCommon (row_at p a) (row_at p b) (row_at q to)

-- the pool with at least n rows spare
abbrev pub with_spare : Pool → ℕ → Pool
with_spare p n = pool p.width p.rows (max p.spare n)

-- the pool with one of its spare rows live: it is full
abbrev pub with_row_taken : Pool → ℕ → Pool
with_row_taken p id = pool p.width (insert p.rows id (full p.width)) (p.spare - 1)

-- the pool with one of its live rows spare again
abbrev pub without_row : Pool → ℕ → Pool
without_row p id = pool p.width (remove p.rows id) (p.spare + 1)

-- the pool at a greater width: the same rows are live, each with full words after its own
pub record IsWider (p : Pool) (new : ℕ) (q : Pool) : Type 0 where
  pub width : q.width ≡ new
  pub spare : q.spare ≡ p.spare
  pub rows : (id : ℕ) →
      get q.rows id ≡ option_map (λ words. widened words (new - p.width)) (get p.rows id)
