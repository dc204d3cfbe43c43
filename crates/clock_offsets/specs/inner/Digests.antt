-- The chain of a table that has a digest.
use Rattle.std.specs.Prelude.{ℕ, ◌*◌, ◌/◌, ◌^◌}

-- which one of so many chains has the keys with a digest
unfoldable pub chain_of : ℕ → ℕ → ℕ
chain_of count digest = (digest * count) / 2 ^ 64
