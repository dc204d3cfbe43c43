-- Numbers, days and counts of a given digest and of a book's traces together.
use Rattle.std.specs.Prelude.{◌≡◌, ◌≢◌, ◌↔◌, ◌⊎◌, ℕ, ◌+◌, ◌<◌, List, Bool, length, map, Contains, AllPairs}
use Rattle.day_partitions.specs.Books.{KeptDay}
use Rattle.judged_books.specs.JudgedBooks.{JudgedState}
use Rattle.trace_types.specs.NamedSegments.{number_of_name, number_of_task}
use Rattle.trace_types.specs.Parts.{by_number, segments_of}
use Rattle.kept_books.specs.KeptBooks.{traces_in}
use Rattle.kept_names.specs.Marking.{IsMarked}

-- the new marks are the old ones and those of the numbers below a count
pub record AddsFirst (count : ℕ) (old new : List Bool) : Type 0 where
  pub size : length new ≡ length old
  pub marked : (n : ℕ) → IsMarked new n ↔ (IsMarked old n ⊎ ((n < count) × (n < length old)))

-- exactly these numbers and those below a count are marked, within a limit
abbrev pub AreMarksWith : ℕ → ℕ → List ℕ → List Bool → Type 0
AreMarksWith limit count numbers marks =
    (n : ℕ) → IsMarked marks n ↔ (((n < count) × (n < limit)) ⊎ Contains numbers n)

-- so many numbers are among these and not among the first ones
pub record CountsOthers (firsts these : List ℕ) (many : ℕ) : Type 0 where
  pub others : List ℕ
  pub differ : AllPairs (λ x y. x ≢ y) others
  pub apart : (x : ℕ) → Contains others x → Contains these x × (Contains firsts x → ⊥)
  pub either : (x : ℕ) → Contains these x → Contains firsts x ⊎ Contains others x
  pub count : length others ≡ many

-- the days of a book
abbrev pub days_in : List KeptDay → List ℕ
days_in days = map (λ (k : KeptDay). k.day) days

-- so many days there are: those of the given digest, and those of the book that are not among them
pub record AreDaysOf (j : JudgedState) (days : ℕ) : Type 0 where
  pub new : ℕ
  pub others : CountsOthers j.given.table.days (days_in j.book.book.days) new
  pub count : days ≡ length j.given.table.days + new

-- the names of the given digest, which are the first of the catalogue, and those of the traces have
-- marks
abbrev pub AreNameMarks : JudgedState → List Bool → Type 0
AreNameMarks j marks = AreMarksWith 512 (length j.given.table.names)
    (map number_of_name (segments_of by_number (traces_in j.book))) marks

-- and so have the tasks
abbrev pub AreTaskMarks : JudgedState → List Bool → Type 0
AreTaskMarks j marks = AreMarksWith 64 (length j.given.table.tasks)
    (map number_of_task (segments_of by_number (traces_in j.book))) marks
