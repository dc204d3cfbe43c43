-- What a page is made of: fixed text, and names, numbers, times, shares and places in between.
use Rattle.std.specs.Prelude.{ℕ, List, decimal, map}
use Rattle.std.specs.List.{flat_map}
use Rattle.markup.specs.declared.piece.Piece.{Piece}
use Rattle.markup.specs.declared.piece.Piece.TheVariants as pieces
use Rattle.markup.specs.Escapes.{escaped}
use Rattle.markup.specs.Units.{place_text, share_text, time_text}

-- a part of a page: text of the program's own, a name, a number, a place on the width of a picture,
-- a time in nanoseconds, and a part of a whole in percent
pub data Part : Type 0 where
  Fixed : List ℕ → Part
  Name : List ℕ → Part
  Number : ℕ → Part
  Place : ℕ → Part
  Time : ℕ → Part
  Share : ℕ → ℕ → Part

-- how a part is written: a name is escaped
abbrev pub part_text : Part → List ℕ
part_text (Fixed text) = text
part_text (Name name) = escaped name
part_text (Number number) = decimal number
part_text (Place place) = place_text place
part_text (Time nanos) = time_text nanos
part_text (Share part whole) = share_text part whole

-- how parts are written, one behind the other
abbrev pub parts_text : List Part → List ℕ
parts_text parts = flat_map part_text parts

-- the part that a piece of the code is
abbrev pub part_of_piece : Piece → Part
part_of_piece (pieces.Fixed text) = Fixed text.now
part_of_piece (pieces.Name name) = Name name.now
part_of_piece (pieces.Number number) = Number number
part_of_piece (pieces.Place place) = Place place
part_of_piece (pieces.Time nanos) = Time nanos
part_of_piece (pieces.Share share) = Share share.0 share.1

-- how pieces of the code are written
abbrev pub pieces_text : List Piece → List ℕ
pieces_text pieces = parts_text (map part_of_piece pieces)
