-- What one line of a file of steps says: the start, or a step.
use Rattle.std.specs.Prelude.{ℕ, ◌==◌, ◌&&◌, List, [], ◌∷◌, map, codes, Bool, not}
use Rattle.std.specs.Prelude.{if◌then◌else◌, Option, Some, None, option_map, option_and_then}
use Rattle.std.specs.Option.{option_zip}
use Rattle.std.specs.List.{slice_split}
use Rattle.std.specs.Int.{is_in_range}
use Rattle.std.specs.Str.{bytes_eq}
use Rattle.word_rows.specs.declared.entries.Entry.{Entry}
use Rattle.word_rows.specs.declared.events.StepEvent.{StepEvent}
use Rattle.word_rows.specs.declared.events.StepEvent.TheVariants.{Clear, Load, Split, Join, Close}
use Rattle.word_rows.specs.Rows.{is_row}
use Rattle.step_core.specs.declared.start.Start.{Start}
use Rattle.step_core.specs.Numbers.{plain_number, mask_number}

-- the words of a line: its parts around the spaces
abbrev pub line_words : List ℕ → List (List ℕ)
line_words line = slice_split (λ byte. byte == 32) line

-- one word that is a number
abbrev pub one_number : List (List ℕ) → Option ℕ
one_number (word ∷ []) = plain_number word
one_number words = None

-- two words that are numbers
abbrev pub two_numbers : List (List ℕ) → Option (ℕ × ℕ)
two_numbers (first ∷ second ∷ []) = option_zip (plain_number first) (plain_number second)
two_numbers words = None

-- the entry whose word and mask are these two parts
abbrev pub entry_of_parts : List (List ℕ) → Option Entry
entry_of_parts (word ∷ mask ∷ []) =
    option_map (λ e. record { word = e.0; mask = e.1 })
    (option_zip (plain_number word) (mask_number mask))
entry_of_parts parts = None

-- the entry `WORD:MASK`
abbrev pub entry_of : List ℕ → Option Entry
entry_of word = entry_of_parts (slice_split (λ byte. byte == 58) word)

-- all the values; none where one is missing
abbrev pub all_values : {X : Type 0} → List (Option X) → Option (List X)
all_values [] = Some []
all_values (x ∷ xs) = option_map (λ all. all.0 ∷ all.1) (option_zip x (all_values xs))

-- the entries of these words, where they have the form of a row
abbrev pub row_of_words : List (List ℕ) → Option (List Entry)
row_of_words words =
    option_and_then (λ row. if is_row row then Some row else None) (all_values (map entry_of words))

-- `SEAT ENTRY ...`
abbrev pub clear_of : List (List ℕ) → Option StepEvent
clear_of (seat ∷ entries) =
    option_map (λ c. Clear c.0 c.1) (option_zip (plain_number seat) (row_of_words entries))
clear_of [] = None

-- the step that a line with these words says
abbrev pub step_of_words : List (List ℕ) → Option StepEvent
step_of_words (name ∷ words) =
    if bytes_eq name (codes "clear") then clear_of words else (
    if bytes_eq name (codes "load") then option_map (λ p. Load p.0 p.1) (two_numbers words) else (
    if bytes_eq name (codes "split") then option_map (λ p. Split p.0 p.1) (two_numbers words) else (
    if bytes_eq name (codes "join") then option_map (λ p. Join p.0 p.1) (two_numbers words) else (
    if bytes_eq name (codes "close") then option_map Close (one_number words) else None))))
step_of_words [] = None

-- the step that a line says; none where it has another form
abbrev pub step_said : List ℕ → Option StepEvent
step_said line = step_of_words (line_words line)

-- a width from 1 to 8,302, and at least one share
abbrev pub is_start : Start → Bool
is_start start = is_in_range 1 8302 start.width && not (start.shares == 0)

-- the start of the words of a line: `open WIDTH SHARES`, both in range
abbrev pub start_of_words : List (List ℕ) → Option Start
start_of_words (name ∷ words) =
    if bytes_eq name (codes "open")
    then option_and_then (λ p. let start : Start = record { width = p.0; shares = p.1 } in
    if is_start start then Some start else None) (two_numbers words)
    else None
start_of_words [] = None

-- the start that a line says; none where it has another form
abbrev pub start_said : List ℕ → Option Start
start_said line = start_of_words (line_words line)
