-- The words of a book, copied.
use Rattle.std.specs.Prelude.{◌≡◌, ℕ, List, length}
use Rattle.hypothesis_index.specs.Places.{width_of}
use Rattle.kept_books.specs.KeptBooks.{IsKeptBook, KeptState, traces_in}
use Rattle.refute_tests.specs.Survivors.{AreSurvivors}

-- the words tell which relations the book's traces refute, and are as many as its names ask
pub record IsSheetOfBook (k : KeptState) (words : List ℕ) : Type 0 where
  pub book : IsKeptBook k
  pub survivors : AreSurvivors (traces_in k) words
  pub width : length words ≡ width_of (length k.known.names)
