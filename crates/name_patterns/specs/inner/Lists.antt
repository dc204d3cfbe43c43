-- Lists of bytes.
use Rattle.std.specs.Prelude.{ℕ, List, Vec}

-- the bytes in a vector
abbrev pub bytes_in : {A : Type 0} → Vec ℕ A → List ℕ
bytes_in v = v.items
