-- What the record of files tells. In a definition by cases the snapshot of what was before has two
-- parts, its mark and its value.
use Rattle.std.specs.Prelude.{List, []}
use Rattle.mystery_io.specs.Readings.{Reading, after_open, after_read}
use Rattle.mystery_io.specs.Taken.{bytes_of}
use Rattle.mystery_io.specs.declared.history.History.{History}
use Rattle.mystery_io.specs.declared.history.History.TheVariants.{Nothing, Opened', Gave'}

-- the readings of a history, in their order
unfoldable pub readings_of : History → List Reading
readings_of Nothing = []
readings_of (Opened' mark before name) = after_open (readings_of before) (bytes_of name.value)
readings_of (Gave' mark before piece) = after_read (readings_of before) (bytes_of piece.value)
