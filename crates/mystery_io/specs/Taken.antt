-- What the record of a sink tells. In a definition by cases the snapshot of what was before has two
-- parts, its mark and its value.
use Rattle.std.specs.Prelude.{ℕ, List, [], ◌∷◌, ◌++◌}
use Rattle.mystery_io.specs.declared.taken.Taken.{Taken}
use Rattle.mystery_io.specs.declared.taken.Taken.TheVariants.{Nothing, Byte'}

-- the bytes that were taken, in their order
unfoldable pub bytes_of : Taken → List ℕ
bytes_of Nothing = []
bytes_of (Byte' mark before byte) = bytes_of before ++ byte.value ∷ []
