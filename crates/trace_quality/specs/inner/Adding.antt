-- The first that counts, as one trace is added after another.
use Rattle.std.specs.Prelude.{ℕ, Option, Some, None, nat_lt, if◌then◌else◌}

-- the first so far, or this index where it counts any
abbrev pub first_or : Option ℕ → (index count : ℕ) → Option ℕ
first_or (Some first) index count = Some first
first_or None index count = if nat_lt 0 count then Some index else None
