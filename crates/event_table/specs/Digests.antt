-- Digests of bytes.
use Rattle.std.specs.Prelude.{ℕ, List}
use Rattle.std.specs.Hash.FoldHasher.{initial, write, finish}

-- 64 bits that tell most lists of bytes apart
unfoldable pub digest_of : List ℕ → ℕ
digest_of bytes = finish (write initial bytes)
