-- The bytes of a field of a row.
use Rattle.std.specs.Prelude.{ℕ, List, decimal}
use Rattle.text_rows.specs.declared.field.Field.{Field}
use Rattle.text_rows.specs.declared.field.Field.TheVariants.{Word, Number, Figure}
use Rattle.text_rows.specs.Rows.{figure}

-- the bytes of a field: a text, a number in plain digits, or a name with its number
abbrev pub field_text : Field → List ℕ
field_text (Word word) = word.now
field_text (Number number) = decimal number
field_text (Figure name number) = figure name.now number
