-- Rows: their kind, how good the input is in this respect, a count and of how many, an example, and
-- what is counted.
use Rattle.std.specs.Prelude.{ℕ, ℤ, ◌++◌, List, codes, decimal, if◌then◌else◌, map}
use Rattle.std.specs.Fmt.{signed_decimal}
use Rattle.event_lines.specs.EventFaults.{is_control_character}
use Rattle.inspect_run.specs.declared.level.Level.{Level}
use Rattle.inspect_run.specs.declared.level.Level.TheVariants.{Fine, Note, Warn}

-- how good the input is, as it is printed
abbrev pub level_text : Level → List ℕ
level_text Fine = codes "ok"
level_text Note = codes "note"
level_text Warn = codes "warn"

-- the first fields of a row, and the last ones
unfoldable pub row_begin : (kind : List ℕ) → Level → (count : ℕ) → List ℕ
row_begin kind level count =
    kind ++ codes "\t" ++ level_text level ++ codes "\t" ++ decimal count ++ codes "\t"

unfoldable pub row_end : (of : ℕ) → (example what : List ℕ) → List ℕ
row_end of example what =
    decimal of ++ codes "\t" ++ example ++ codes "\t" ++ what ++ codes "\n"

-- a row
abbrev pub row_text : (kind : List ℕ) → Level → (count of : ℕ) → (example what : List ℕ) → List ℕ
row_text kind level count of example what =
    row_begin kind level count ++ row_end of example what

-- the same of a row whose count and of how many may be negative
unfoldable pub signed_begin : (kind : List ℕ) → Level → (count : ℤ) → List ℕ
signed_begin kind level count =
    kind ++ codes "\t" ++ level_text level ++ codes "\t" ++ signed_decimal count ++ codes "\t"

unfoldable pub signed_end : (of : ℤ) → (example what : List ℕ) → List ℕ
signed_end of example what =
    signed_decimal of ++ codes "\t" ++ example ++ codes "\t" ++ what ++ codes "\n"

-- a row whose count and of how many may be negative
abbrev pub signed_row_text : (kind : List ℕ) → Level → (count of : ℤ) → (example what : List ℕ)
    → List ℕ
signed_row_text kind level count of example what =
    signed_begin kind level count ++ signed_end of example what

-- what stands in place of an example where there is none
abbrev pub no_example : List ℕ
no_example = codes "-"

-- the name of a file as it is printed: a control character is a question mark
abbrev pub shown_byte : ℕ → ℕ
shown_byte c = if is_control_character c then 63 else c

abbrev pub shown : List ℕ → List ℕ
shown name = map shown_byte name
