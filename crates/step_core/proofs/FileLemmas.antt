-- Steps of a file, one line after another.
use Rattle.std.proofs.Common.{◌≡◌, ℕ, List, [], ◌∷◌, ◌++◌, map, Bool, true, false, Option, Some, None, Result, Ok, Err, refl, sym, ap, ◌∙◌, append_assoc}
use Rattle.std.specs.Prelude.{codes, if◌then◌else◌, IfSome, option_map, option_and_then}
use Rattle.std.specs.Option.{option_zip}
use Rattle.std.specs.Str.{bytes_eq}
use Rattle.std.proofs.lemmas.List.{append-nil}
use Rattle.std.specs.Result.{result_map_both}
use Rattle.word_rows.specs.declared.entries.Entry.{Entry}
use Rattle.word_rows.specs.declared.events.StepEvent.{StepEvent}
use Rattle.word_rows.specs.declared.events.StepEvent.TheVariants.{Clear, Load, Split, Join, Close}
use Rattle.word_rows.specs.Machine.{HasRow, HaveRows}
use Rattle.word_rows.specs.Rows.{is_row}
use Rattle.step_core.specs.Numbers.{plain_number}
use Rattle.step_core.specs.StepLines.{all_values, clear_of, entry_of, one_number, row_of_words, step_of_words, step_said, two_numbers, line_words}
use Rattle.step_core.specs.StepFiles.{steps_of_lines}
use Rattle.step_core.specs.inner.StepNumbers.{step_of_numbers}

-- these steps, and then those of the lines after them, or the number of the first bad line
abbrev pub after_steps : List StepEvent → Result (List StepEvent) ℕ → Result (List StepEvent) ℕ
after_steps first rest = result_map_both (λ more. first ++ more) (λ n. n) rest

pub after_none : (rest : Result (List StepEvent) ℕ) → after_steps [] rest ≡ rest
after_none (Ok more) = refl
after_none (Err n) = refl

-- a good line's step follows those before it
pub step_added : (lines others : List (ℕ × List ℕ)) (n : ℕ) (line : List ℕ) (event : StepEvent) (events : List StepEvent) (all : Result (List StepEvent) ℕ) → lines ≡ (n, line) ∷ others → Some event ≡ step_said line → after_steps events (steps_of_lines lines) ≡ all
    → after_steps (events ++ event ∷ []) (steps_of_lines others) ≡ all
step_added lines others n line event events all cut said told = by (steps_of_lines others) refl
  where
    by : (rest : Result (List StepEvent) ℕ) → steps_of_lines others ≡ rest → after_steps (events ++ event ∷ []) (steps_of_lines others) ≡ all
    by (Ok more) e = rw e (ap Ok (append_assoc events (event ∷ []) more) ∙ rw (cut, ← said, e) at told)
    by (Err k) e = rw e (rw (cut, ← said, e) at told)

-- a bad line is the first bad line of all
pub step_missing : (lines others : List (ℕ × List ℕ)) (n : ℕ) (line : List ℕ) (events : List StepEvent) (all : Result (List StepEvent) ℕ) → lines ≡ (n, line) ∷ others → None ≡ step_said line → after_steps events (steps_of_lines lines) ≡ all → all ≡ Err n
step_missing lines others n line events all cut said told = sym (rw (cut, ← said) at told)

-- no line is left
pub steps_done : (lines : List (ℕ × List ℕ)) (events : List StepEvent) (all : Result (List StepEvent) ℕ) → lines ≡ [] → after_steps events (steps_of_lines lines) ≡ all → all ≡ Ok events
steps_done lines events all cut told = sym (rw cut at told) ∙ ap Ok (append-nil events)

-- a row that words say has the form of a row
row_fits : (words : List (List ℕ)) → IfSome (row_of_words words) (λ row. is_row row ≡ true)
row_fits words = by (all_values (map entry_of words)) refl
  where
    tested : (row : List Entry) (b : Bool) → is_row row ≡ b → IfSome (if b then Some row else None) (λ row. is_row row ≡ true)
    tested row true e = e
    tested row false e = tt

    by : (row : Option (List Entry)) → all_values (map entry_of words) ≡ row → IfSome (option_and_then (λ row. if is_row row then Some row else None) row) (λ row. is_row row ≡ true)
    by None e = tt
    by (Some row) e = tested row (is_row row) refl

clear_has_row : (seat : Option ℕ) (row : Option (List Entry)) → IfSome row (λ row. is_row row ≡ true) → IfSome (option_map (λ c. Clear c.0 c.1) (option_zip seat row)) HasRow
clear_has_row None row h = tt
clear_has_row (Some seat) None h = tt
clear_has_row (Some seat) (Some row) h = h

other_has_row : {X : Type 0} (f : X → StepEvent) → ((x : X) → HasRow (f x)) → (o : Option X) → IfSome (option_map f o) HasRow
other_has_row f h None = tt
other_has_row f h (Some x) = h x

one_of : (b : Bool) (first other : Option StepEvent) → IfSome first HasRow → IfSome other HasRow → IfSome (if b then first else other) HasRow
one_of true first other h k = h
one_of false first other h k = k

clears_have_rows : (words : List (List ℕ)) → IfSome (clear_of words) HasRow
clears_have_rows [] = tt
clears_have_rows (seat ∷ words) = clear_has_row (plain_number seat) (row_of_words words) (row_fits words)

named_has_row : (name : List ℕ) (words : List (List ℕ)) → IfSome (step_of_words (name ∷ words)) HasRow
named_has_row name words =
    one_of (bytes_eq name (codes "clear")) (clear_of words) (step_of_numbers name words) (clears_have_rows words) (
    one_of (bytes_eq name (codes "load")) _ _ (other_has_row (λ (p : ℕ × ℕ). Load p.0 p.1) (λ p. tt) (two_numbers words)) (
    one_of (bytes_eq name (codes "split")) _ _ (other_has_row (λ (p : ℕ × ℕ). Split p.0 p.1) (λ p. tt) (two_numbers words)) (
    one_of (bytes_eq name (codes "join")) _ _ (other_has_row (λ (p : ℕ × ℕ). Join p.0 p.1) (λ p. tt) (two_numbers words)) (
    one_of (bytes_eq name (codes "close")) _ _ (other_has_row Close (λ seat. tt) (one_number words)) tt))))

words_have_row : (words : List (List ℕ)) → IfSome (step_of_words words) HasRow
words_have_row [] = tt
words_have_row (name ∷ words) = named_has_row name words

-- the rows of all steps have the form of a row
pub steps_have_rows : (lines : List (ℕ × List ℕ)) (events : List StepEvent) → steps_of_lines lines ≡ Ok events → HaveRows events
steps_have_rows [] events e = let f : events ≡ [] = cc in rw f tt
steps_have_rows (line ∷ lines) events e = by (step_said line.1) (steps_of_lines lines) refl refl (words_have_row (line_words line.1)) (λ more g. steps_have_rows lines more g)
  where
    by : (one : Option StepEvent) (rest : Result (List StepEvent) ℕ) → step_said line.1 ≡ one → steps_of_lines lines ≡ rest → IfSome one HasRow → ((more : List StepEvent) → steps_of_lines lines ≡ Ok more → HaveRows more) → HaveRows events
    by None rest f g h others = let k : Err line.0 ≡ Ok events = rw f at e in cc
    by (Some event) (Err n) f g h others = let k : Err n ≡ Ok events = rw (f, g) at e in cc
    by (Some event) (Ok more) f g h others =
        let k : Ok (event ∷ more) ≡ Ok events = rw (f, g) at e in
        let same : events ≡ event ∷ more = cc in
        rw same (h, others more g)
