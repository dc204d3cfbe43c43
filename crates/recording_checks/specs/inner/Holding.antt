-- Ids of a pool's rows in slots, as tests keep them.
use Rattle.std.specs.Prelude.{◌≡◌, ℕ, List, Option, Some, None, get_or}
use Rattle.row_pool.specs.Pools.{Pool, IsLive}

-- each slot is empty or has the id of a live row, and no two slots have one id
pub record AreHeld (p : Pool) (slots : List (Option ℕ)) : Type 0 where
  pub live : (n id : ℕ) → get_or slots n None ≡ Some id → IsLive p id
  pub apart : (m n id : ℕ) → get_or slots m None ≡ Some id → get_or slots n None ≡ Some id → m ≡ n
