-- Words of a line, one after another.
use Rattle.std.proofs.Common.{◌≡◌, ℕ, List, [], ◌∷◌, Bool, true, false, Option, Some, None, refl}
use Rattle.std.specs.Borrow.{Bor}
use Rattle.std.specs.Prelude.{is_some, option_copied, ◌==◌}
use Rattle.std.specs.List.{slice_split}
use Rattle.step_core.specs.StepLines.{entry_of, one_number, two_numbers, line_words}
use Rattle.step_core.specs.LinesLeft.{parts_left}

-- a space, and a colon
abbrev pub is_space : ℕ → Bool
is_space byte = byte == 32

abbrev pub is_colon : ℕ → Bool
is_colon byte = byte == 58

-- bytes have a first part
first_of : (separates : ℕ → Bool) (bytes : List ℕ) → (first : List ℕ) × (rest : List (List ℕ)) × (slice_split separates bytes ≡ first ∷ rest)
first_of p [] = ([], [], refl)
first_of p (x ∷ xs) = by (p x) refl (first_of p xs)
  where
    by : (b : Bool) → p x ≡ b → (first : List ℕ) × (rest : List (List ℕ)) × (slice_split p xs ≡ first ∷ rest) → (first : List ℕ) × (rest : List (List ℕ)) × (slice_split p (x ∷ xs) ≡ first ∷ rest)
    by true e more = ([], slice_split p xs, rw e refl)
    by false e more = (x ∷ more.0, more.1, rw (e, more.2) refl)

-- a reference that is there has its bytes
pub copied : (rest : Option (Bor (List ℕ))) (b : Bool) → b ≡ true → b ≡ is_some rest → is_some (option_copied rest) ≡ true
copied None b e f = cc
copied (Some r) b e f = refl

-- more words than one are not one number
pub not_one : (text first : List ℕ) (rest : Option (List ℕ)) → line_words text ≡ first ∷ parts_left is_space rest → is_some rest ≡ true → None ≡ one_number (line_words text)
not_one text first None cut more = cc
not_one text first (Some bytes) cut more = let f = first_of is_space bytes in rw (cut, f.2) refl

pub not_two : (text first second bytes : List ℕ) (rest : Option (List ℕ)) → line_words text ≡ first ∷ line_words bytes → line_words bytes ≡ second ∷ parts_left is_space rest → is_some rest ≡ true → None ≡ two_numbers (line_words text)
not_two text first second bytes None cut next more = cc
not_two text first second bytes (Some left) cut next more = let f = first_of is_space left in rw (cut, next, f.2) refl

pub not_entry : (word first second bytes : List ℕ) (rest : Option (List ℕ)) → slice_split is_colon word ≡ first ∷ slice_split is_colon bytes → slice_split is_colon bytes ≡ second ∷ parts_left is_colon rest → is_some rest ≡ true → None ≡ entry_of word
not_entry word first second bytes None cut next more = cc
not_entry word first second bytes (Some left) cut next more = let f = first_of is_colon left in rw (cut, next, f.2) refl
