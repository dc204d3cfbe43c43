-- What a pool has once a row was written, taken or given back.
use Rattle.std.proofs.Common.{◌≡◌, ℕ, List, Some, IsSome, ap, sym, subst}
use Rattle.std.specs.FinMap.{get}
use Rattle.row_pool.specs.Pools.{words_or_none}
use Rattle.row_pool.specs.Pools.{Pool, IsLive, row_at}

-- the row has the words that the map has there
pub row_at-kept : (p q : Pool) (i : ℕ) → get q.rows i ≡ get p.rows i → row_at q i ≡ row_at p i
unfolding row_at
row_at-kept p q i e = ap words_or_none e

pub row_at-is : (p : Pool) (i : ℕ) (xs : List ℕ) → get p.rows i ≡ Some xs → row_at p i ≡ xs
unfolding row_at
row_at-is p i xs e = ap words_or_none e

pub live-kept : (p q : Pool) (i : ℕ) → get q.rows i ≡ get p.rows i → IsLive p i → IsLive q i
live-kept p q i e live = subst (λ o. IsSome o) (sym e) live
