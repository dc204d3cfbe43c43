-- Sums of a time and a grace that saturate compare as the exact sums do.
use Rattle.std.proofs.Common.{◌≡◌, ℕ, ℤ, pos, ◌+ℤ◌, ◌-ℤ◌, int_lt, FitsSigned, w64, arith}
use Rattle.std.proofs.lemmas.Int.{ints}
use Rattle.std.specs.Int.{saturate_signed}

pub ends_late : (start end : ℤ) (grace : ℕ) → FitsSigned w64 start → FitsSigned w64 end → int_lt (saturate_signed w64 (start +ℤ pos grace)) end ≡ int_lt (start +ℤ pos grace) end
ends_late start end grace f g = grind (arith, ints)

pub starts_soon : (start end : ℤ) (grace : ℕ) → FitsSigned w64 start → FitsSigned w64 end → int_lt start (saturate_signed w64 (end -ℤ pos grace)) ≡ int_lt (start +ℤ pos grace) end
starts_soon start end grace f g = grind (arith, ints)
